pub mod Table
pub mod Keeping
pub mod Sheets
