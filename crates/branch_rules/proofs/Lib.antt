pub mod Heaping
pub mod Rising
pub mod Tables
pub mod Blocks
