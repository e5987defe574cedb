use Rattle.std.proofs.Common.{◌≡◌, ◌++◌, take}
use Rattle.hub_core.specs.HubView.{state_of}
use Rattle.hub_chapters.specs.Checkpoint.{ports_again}
use Rattle.hub_cut.proofs.checkpoints.write_ports.Given as goal

abbrev pub invariant-loop-index : goal.invariant-loop-index
invariant-loop-index l = l.entries.items ≡ l.fn.entries.items ++ ports_again 1 (take l.index (state_of l.hub.memory.hub).channels)
