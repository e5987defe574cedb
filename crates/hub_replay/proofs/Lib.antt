mod Comparing
mod LongTexts
mod Newlines
pub mod Replayed
mod Verified
mod Written
mod LineEnds
mod FirstLines
mod EntryLines
mod Counting
mod Stages
mod Ending
mod Hearing
mod Saying
mod Talking
