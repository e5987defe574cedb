pub mod Json
pub mod Diagrams
pub mod ReaderRows
pub mod Formats
pub mod Pieces
