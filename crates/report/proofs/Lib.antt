pub mod PathTexts
pub mod Lines
mod InsertedSyncs
