pub mod Rows
pub mod Assumed
pub mod Told
pub mod Finding
pub mod Turned
