pub mod Records
pub mod Watching
pub mod Calls
pub mod Lending
pub mod Steps
pub mod Closing
pub mod Law
