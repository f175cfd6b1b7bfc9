pub mod Appending
mod Coming
