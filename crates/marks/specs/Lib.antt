pub mod Sets
pub mod Counted
