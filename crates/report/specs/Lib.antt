pub mod EventTable
pub mod Answers
pub mod Outcomes
