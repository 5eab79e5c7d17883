pub mod GeneralReadings
pub mod GeneralStating
