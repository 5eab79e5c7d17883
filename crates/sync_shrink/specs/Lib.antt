pub mod Sets
pub mod Walk
pub mod Steps
pub mod Counting
