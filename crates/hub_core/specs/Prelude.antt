-- Words of the crates below that this crate's clauses cite, passed on from one place.
pub use Rattle.hub_base.specs.Entry.{Entry}
pub use Rattle.hub_base.specs.declared.head.Edition.{Edition}
pub use Rattle.hub_base.specs.declared.head.Head.{Head}
pub use Rattle.hub_base.specs.declared.limits.TheConstants.{MOST_EVENTS}
pub use Rattle.hub_base.specs.Head.{AreOf, IsHead, head_of, is_of}
pub use Rattle.hub_base.specs.Ready.{port_of}
pub use Rattle.hub_base.specs.Steps.{closing_outcome, fired, refusal, tells}
pub use Rattle.hub_base.specs.Runs.{state}
pub use Rattle.hub_laws.specs.Once.{OnceLaw, is_call}
pub use Rattle.hub_laws.specs.OnePort.{found_closed, port_changed_by, port_touched_by}
pub use Rattle.hub_laws.specs.Sound.{Apart}
pub use Rattle.hub_parts.specs.Keeps.{AllMade}
pub use Rattle.hub_parts.specs.Lists.{IsMade, ending_of, open_calls, passes}
