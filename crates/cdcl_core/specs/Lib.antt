pub mod Answering
pub mod Numbers
pub mod Search
pub mod Steps
pub mod Blame
pub mod Luby
