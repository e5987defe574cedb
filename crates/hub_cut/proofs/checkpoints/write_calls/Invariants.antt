use Rattle.std.proofs.Common.{◌≡◌, ◌++◌, map, take}
use Rattle.hub_core.specs.HubView.{state_of}
use Rattle.hub_chapters.specs.Checkpoint.{call_again}
use Rattle.hub_cut.proofs.checkpoints.write_calls.Given as goal

abbrev pub invariant-loop-place : goal.invariant-loop-place
invariant-loop-place l = l.entries.items ≡ l.fn.entries.items ++ map call_again (take l.place (state_of l.hub.memory.hub).parked)
