-- What a library holds, when its calls and those of a sink may answer what, and which calls in memory fail.
pub mod Held
pub mod Causes
pub mod Calls
pub mod Memory
