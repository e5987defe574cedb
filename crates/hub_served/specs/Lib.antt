pub mod Endless
pub mod Given
pub mod Follow
pub mod Stands
pub use Rattle.hub_story.specs.Clock
