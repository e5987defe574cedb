use Rattle.std.proofs.Common.{map, take}
use Rattle.hub_core.specs.HubView.{state_of}
use Rattle.hub_chapters.specs.Checkpoint.{call_again}
use Rattle.hub_cut.specs.Cut.{Makes}
use Rattle.hub_cut.proofs.making.make_calls.Given as goal

abbrev pub invariant-loop-place : goal.invariant-loop-place
invariant-loop-place l =
    Makes l.fn.next.memory.hub (map call_again (take l.place (state_of l.hub.memory.hub).parked)) l.next.memory.hub
