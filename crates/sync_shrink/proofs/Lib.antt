pub mod SetLaws
pub mod Under
pub mod Carried
pub mod WalkLaws
