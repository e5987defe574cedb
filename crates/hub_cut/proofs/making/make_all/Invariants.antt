use Rattle.std.proofs.Common.{take}
use Rattle.hub_cut.specs.Cut.{Makes}
use Rattle.hub_cut.proofs.making.make_all.Given as goal

abbrev pub invariant-loop-entry : goal.invariant-loop-entry
invariant-loop-entry l = Makes l.fn.next.memory.hub (take l.entry-index l.entries) l.next.memory.hub
