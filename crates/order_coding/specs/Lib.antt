pub mod Tournament
pub mod Variables
pub mod Families
pub mod Writing
pub mod Decoded
pub mod Growth
pub mod Marks
