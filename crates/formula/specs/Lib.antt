pub mod Comparing
pub mod Joining
pub mod Trees
pub mod Shifting
