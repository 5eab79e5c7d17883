pub mod Matched
pub mod Numbers
pub mod OfLines
pub mod OneCommand
pub mod Places
