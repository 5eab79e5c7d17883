pub mod ShippedModels
pub mod Generated
pub mod Drawing
