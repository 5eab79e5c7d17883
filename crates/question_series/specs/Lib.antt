pub mod Series
pub mod Assumed
pub mod Settling
