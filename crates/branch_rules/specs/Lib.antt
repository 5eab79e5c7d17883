pub mod Choosing
pub mod Heap
