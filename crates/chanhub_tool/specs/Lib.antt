pub mod Windows
pub mod Explains
pub mod Faults
pub mod Promises
pub mod Files
pub mod Explores
