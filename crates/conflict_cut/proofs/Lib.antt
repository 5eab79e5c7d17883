pub mod Counting
pub mod GeneralLevels
pub mod Taking
pub mod Walking
pub mod Drawing
pub mod GeneralReasons
pub mod Example
