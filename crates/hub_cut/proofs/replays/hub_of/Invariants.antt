use Rattle.std.proofs.Common.{◌≡◌, take}
use Rattle.hub_base.specs.declared.limits.TheConstants.{MOST_STEPS}
use Rattle.hub_core.specs.HubView.{terms_of}
use Rattle.hub_cut.specs.Cut.{hub_with}
use Rattle.hub_cut.proofs.replays.hub_of.Given as goal

abbrev pub invariant-loop-place : goal.invariant-loop-place
invariant-loop-place l =
    l.hub.memory.hub ≡ hub_with (terms_of l.journal.head.edition l.journal.head.procs MOST_STEPS) (take l.place l.journal.entries) 0
