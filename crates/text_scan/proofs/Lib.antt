pub mod Ends
pub mod Existing
pub mod FirstLines
pub mod Following
pub mod Fronts
pub mod Outsides
pub mod Spelling
