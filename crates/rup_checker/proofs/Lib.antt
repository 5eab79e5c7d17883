pub mod Sets
pub mod GeneralTrials
pub mod GeneralLogs
pub mod Judging
pub mod Lines
