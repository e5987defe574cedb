-- The cases so far are put there.
use Rattle.std.proofs.Common.{◌≡◌, take}
use Rattle.hub_core.specs.CaseListView.{cases_kept}
use Rattle.hub_core.proofs.case_list.put_in.Given as goal

abbrev pub invariant-loop-i : goal.invariant-loop-i
invariant-loop-i l = take l.i l.places ≡ cases_kept (take l.i l.kept) l.values
