pub mod Bytes
pub mod Tokens
pub mod Cutting
pub mod Laws
pub mod Answers
pub mod Scanning
