pub mod Kinds
pub mod LogFiles
pub mod LogText
pub mod Logs
pub mod Reading
pub mod Stages
pub mod Tokens
