pub mod Fields
pub mod Writing
pub mod Filling
pub mod Place
pub mod Reader
pub mod ReaderKeeps
pub mod Quick
