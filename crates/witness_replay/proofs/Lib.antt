pub mod CrashNumbers
pub mod CrashReading
pub mod Judgements
pub mod Parting
pub mod Permutes
pub mod PlacesOfOrders
pub mod PrintedLines
