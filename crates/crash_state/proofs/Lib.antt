pub mod Bytes
pub mod Places
pub mod Keeping
pub mod Atoms
pub mod MarkTrace
