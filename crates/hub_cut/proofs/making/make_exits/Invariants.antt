use Rattle.std.proofs.Common.{filter, map}
use Rattle.std.specs.List.{range_with_len}
use Rattle.hub_base.specs.Notation.{exit}
use Rattle.hub_base.specs.Steps.{has_gone}
use Rattle.hub_core.specs.HubView.{state_of}
use Rattle.hub_cut.specs.Cut.{Makes}
use Rattle.hub_cut.proofs.making.make_exits.Given as goal

abbrev pub invariant-loop-number : goal.invariant-loop-number
invariant-loop-number l =
    Makes l.fn.next.memory.hub (map exit (filter (has_gone (state_of l.hub.memory.hub)) (range_with_len 0 l.number))) l.next.memory.hub
