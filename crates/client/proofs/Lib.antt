mod Two
pub mod Lists
pub mod Taking
pub mod Conducting
pub mod Lending
