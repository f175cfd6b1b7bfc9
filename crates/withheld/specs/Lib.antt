pub mod Withholding
pub mod Restarting
pub mod Sounds
