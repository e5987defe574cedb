use Rattle.std.proofs.Common.{take}
use Rattle.hub_core.specs.HubView.{state_of}
use Rattle.hub_chapters.specs.Checkpoint.{ports_again}
use Rattle.hub_cut.specs.Cut.{Makes}
use Rattle.hub_cut.proofs.making.make_ports.Given as goal

abbrev pub invariant-loop-index : goal.invariant-loop-index
invariant-loop-index l =
    Makes l.fn.next.memory.hub (ports_again 1 (take l.index (state_of l.hub.memory.hub).channels)) l.next.memory.hub
