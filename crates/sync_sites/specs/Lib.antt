pub mod SiteLists
pub mod Faults
pub mod Passing
