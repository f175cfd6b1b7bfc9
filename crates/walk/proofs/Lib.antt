pub mod Recording
pub mod Telling
pub mod Standing
pub mod Sheets
pub mod Counts
pub mod Laws
pub mod Raising
pub mod Stepping
