pub mod Clauses
pub mod Arena
pub mod Derivations
pub mod Propagation
pub mod Truth
