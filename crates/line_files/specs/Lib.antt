pub mod FirstFaults
pub mod Grammars
pub mod Refusals
pub mod StatedLines
pub mod TakenLines
