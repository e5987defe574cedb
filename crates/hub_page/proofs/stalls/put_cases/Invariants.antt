use Rattle.std.proofs.Common.{◌≡◌, ◌++◌, drop}
use Rattle.std.specs.List.{flat_map}
use Rattle.hub_page.specs.Stalls.{case_of}
use Rattle.hub_page.proofs.stalls.put_cases.Given as goal

abbrev pub invariant-loop-case : goal.invariant-loop-case
invariant-loop-case l =
    l.out.items ++ flat_map (case_of l.stall l.own) (drop l.case-index l.cases) ≡ l.fn.out.items ++ flat_map (case_of l.stall l.own) l.cases
