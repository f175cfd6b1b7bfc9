pub mod Evaluated
pub mod Entries
pub mod Marks
