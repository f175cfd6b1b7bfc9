pub mod Lists
pub mod Names
pub mod Faults
pub mod Looking
pub mod Resolving
pub mod Reading
pub mod Layers
