pub mod Sets
pub mod Findings
pub mod Repairs
pub mod Settings
pub mod Marks
pub mod Oracles
pub mod Notes
pub mod Found
