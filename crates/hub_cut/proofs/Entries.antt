-- `==` of two lists of cases says whether they are equal.
use Rattle.std.proofs.Common.{◌≡◌, List, refl, rules, arith}
use Rattle.std.specs.Bool.{Decides}
use Rattle.std.specs.Cmp.Lexicographic.{pointwise}
use Rattle.std.proofs.lemmas.Slice.Eq.{slice_eq-Decides}
use Rattle.hub_base.specs.declared.case.Case.{Case}
use Rattle.hub_base.specs.contracts.case.CasePartialEq as of_case
use Rattle.hub_base.proofs.Equal.{equal-tells}

decides-case : (a b : Case) → Decides ((of_case.TheImpl.ghosts).eq a b) (a ≡ b)
decides-case a b = (search (rules, equal-tells, arith), search (rules, equal-tells, arith))

pub decides_cases : (a b : List Case) → Decides (pointwise (of_case.TheImpl.ghosts).eq a b) (a ≡ b)
decides_cases a b = slice_eq-Decides decides-case a b (pointwise (of_case.TheImpl.ghosts).eq a b) refl
