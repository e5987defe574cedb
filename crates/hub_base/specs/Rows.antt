-- Worked rows: short journals with the events that the definition gives for them, worked out by
-- hand from the rules. Each is computed from `events`.
pub mod Buffering
pub mod Waiting
pub mod Closing
pub mod Selecting
pub mod Leaving
pub mod Refusing
pub mod Limits
pub mod Cancelling
pub mod Lives
pub mod ByteValues
