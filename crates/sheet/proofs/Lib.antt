pub mod Lines
pub mod Holding
pub mod Keeps
