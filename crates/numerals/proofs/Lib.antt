pub mod Digits
pub mod GeneralSpans
pub mod VisibleLines
