pub mod Drawing
pub mod Steps
