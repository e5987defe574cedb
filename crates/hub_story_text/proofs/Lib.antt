pub mod Chains
pub mod StepLines
pub mod Closings
pub mod StepTexts
pub mod Written
pub mod Levels
pub mod Places
pub mod Ranks
pub mod AllBut
pub mod OwnEnds
pub mod Lateness
mod Asked
mod StoryRead
