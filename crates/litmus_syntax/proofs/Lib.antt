pub mod GeneralPredicates
pub mod Inserting
mod Placing
mod SameTexts
