pub mod Bridges
pub mod Counting
pub mod GeneralLists
pub mod GeneralLiterals
pub mod InTurn
pub mod LeastSet
pub mod Pieces
