pub mod Rules
pub mod Rows
pub mod TakenRows
pub mod Opens
pub mod Sounds
