pub mod Waiting
pub mod Xorshift
pub mod Sources
