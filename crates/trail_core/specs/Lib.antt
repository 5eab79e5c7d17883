pub mod Course
pub mod Standing
pub mod Kept
