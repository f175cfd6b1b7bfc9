pub mod Registers
pub mod Sounds
