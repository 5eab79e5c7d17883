pub mod Depths
pub mod Formed
pub mod GeneralTokens
pub mod Names
pub mod Sayings
pub mod Tokens
