pub mod Advice
pub mod Laws
pub mod Message
pub mod Permitted
pub mod Places
pub mod Reading
