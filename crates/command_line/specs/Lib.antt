pub mod SimpleCommand
pub mod Verbs
pub mod Commands
pub mod Lines
