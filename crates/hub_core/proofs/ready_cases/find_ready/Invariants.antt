-- The numbers so far, and those of the cases that are left, are all of them.
use Rattle.std.proofs.Common.{◌≡◌, ◌≤◌, ℕ, List, ◌++◌, take, drop, map, filter}
use Rattle.std.specs.List.{enumerate_from}
use Rattle.hub_base.specs.declared.case.Case.{Case}
use Rattle.hub_parts.specs.Records.{Lists}
use Rattle.hub_core.specs.ListReady.{can_on, ready_on, number_of}
use Rattle.hub_core.proofs.ready_cases.find_ready.Given as goal

-- the numbers of the cases from the i-th on that can proceed
abbrev left : Lists → ℕ → List Case → List ℕ
left b i cases = map number_of (filter (λ x. can_on b x.1) (enumerate_from i cases))

abbrev pub invariant-loop-i : goal.invariant-loop-i
invariant-loop-i l =
    (l.count ≤ l.i)
    × (take l.count l.ready ++ left l.board l.i (drop l.i l.cases) ≡ map number_of (ready_on l.board l.cases))
