pub mod Places
pub mod SlotLaws
