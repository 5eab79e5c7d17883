pub mod Parts
pub mod Sites
pub mod Reaching
pub mod Without
