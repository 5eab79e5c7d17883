pub mod CrashFiles
pub mod CrashLines
pub mod Judging
pub mod Places
pub mod Spans
