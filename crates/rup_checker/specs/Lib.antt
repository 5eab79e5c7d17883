pub mod Trying
pub mod Marks
pub mod Kinds
pub mod Accepting
