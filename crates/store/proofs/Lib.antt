pub mod Lending
pub mod Rows
pub mod Listed
pub mod Rules
pub mod Opens
pub mod InUse
