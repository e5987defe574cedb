mod Blocks
mod Lines
mod Sums
mod Waiting
pub mod Written
mod EntryWords
mod DataRead
