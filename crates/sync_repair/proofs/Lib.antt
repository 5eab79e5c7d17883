pub mod Kepts
pub mod Counts
pub mod Asked
pub mod Notings
pub mod Finding
pub mod Marking
pub mod Lining
pub mod Walks
