pub mod Lexemes
pub mod Parentheses
