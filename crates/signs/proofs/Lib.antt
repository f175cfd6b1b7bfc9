pub mod Spelling
pub mod Scans
pub mod Once
pub mod Steps
pub mod Counting
