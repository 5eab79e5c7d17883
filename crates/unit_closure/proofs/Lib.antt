pub mod Going
pub mod GeneralSearch
pub mod Adding
