-- The calls that are left have the events that are left, and the same calls stay.
use Rattle.std.proofs.Common.{length}
use Rattle.hub_parts.specs.Lists.{IsMade}
use Rattle.hub_core.specs.ListSteps.{cleared, closing_events}
use Rattle.hub_core.proofs.EndLoops.{EndedSo}
use Rattle.hub_core.proofs.closing.end_calls.Given as goal

abbrev pub invariant-loop-ended : goal.invariant-loop-ended
invariant-loop-ended g l = record {
  made : IsMade l.board l.port;
  calls : EndedSo g.E.Hears.heard g.E.Hears.room (closing_events l.port) (cleared l.port) l.initial.events l.events l.initial.board l.board;
}

abbrev pub decreases-loop-ended : goal.decreases-loop-ended
decreases-loop-ended g l = length l.board.waiting
