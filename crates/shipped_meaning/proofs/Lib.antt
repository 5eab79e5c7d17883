pub mod Scanning
pub mod Stating
pub mod Keeping
pub mod Files
pub mod ShippedFiles
pub mod Syncs
