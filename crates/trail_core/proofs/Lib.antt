pub mod GeneralTrails
pub mod Push
pub mod Pop
pub mod GeneralPlaces
