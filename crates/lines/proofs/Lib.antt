pub mod Folding
pub mod InPlace
pub mod Parted
pub mod Putting
pub mod Reading
