-- The calls that are left have the events that are left.
use Rattle.std.proofs.Common.{length}
use Rattle.hub_core.specs.ListSteps.{none_open, stalled_events}
use Rattle.hub_core.proofs.EndLoops.{EndedSo}
use Rattle.hub_core.proofs.stalling.stop_all.Given as goal

abbrev pub invariant-loop-pid : goal.invariant-loop-pid
invariant-loop-pid g l =
    EndedSo g.E.Hears.heard g.E.Hears.room stalled_events none_open l.initial.events l.events l.initial.board l.board

abbrev pub decreases-loop-pid : goal.decreases-loop-pid
decreases-loop-pid g l = length l.board.waiting
