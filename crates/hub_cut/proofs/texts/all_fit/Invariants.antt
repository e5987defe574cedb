use Rattle.std.proofs.Common.{take}
use Rattle.std.specs.List.{AllByRecursion}
use Rattle.hub_base.specs.Text.{Fits}
use Rattle.hub_cut.proofs.texts.all_fit.Given as goal

abbrev pub invariant-loop-entry : goal.invariant-loop-entry
invariant-loop-entry l = AllByRecursion (Fits l.edition) (take l.entry-index l.entries)
