pub mod Words
pub mod Refusals
pub mod FaultLines
pub mod Statuses
pub mod Promises
