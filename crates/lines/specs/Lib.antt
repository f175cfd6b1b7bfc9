pub mod Lines
pub mod Pieces
pub mod Putting
pub mod Reading
