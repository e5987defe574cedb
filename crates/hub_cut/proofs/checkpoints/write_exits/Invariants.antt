use Rattle.std.proofs.Common.{◌≡◌, ◌++◌, map, filter}
use Rattle.hub_core.specs.HubView.{state_of}
use Rattle.std.specs.List.{range_with_len}
use Rattle.hub_base.specs.Steps.{has_gone}
use Rattle.hub_base.specs.Notation.{exit}
use Rattle.hub_cut.proofs.checkpoints.write_exits.Given as goal

abbrev pub invariant-loop-number : goal.invariant-loop-number
invariant-loop-number l =
    l.entries.items ≡ l.fn.entries.items ++ map exit (filter (has_gone (state_of l.hub.memory.hub)) (range_with_len 0 l.number))
