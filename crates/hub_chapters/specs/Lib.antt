pub mod Alike
pub mod Checkpoint
pub mod Chapters
pub mod Owed
pub mod Carried
pub mod ChapterRows
