pub mod AtomFronts
pub mod AtomNames
pub mod Counts
pub mod Fronts
pub mod Predicates
