-- What a filter leaves of a list.
use Rattle.std.proofs.Common.{◌≤◌, suc, Bool, true, false, cond, List, [], ◌∷◌, length, filter, arith}
use Rattle.std.specs.List.{AllByRecursion}

pub all_filter : {X : Type 0} (P : X → Type 0) (keep : X → Bool) (xs : List X) → AllByRecursion P xs → AllByRecursion P (filter keep xs)
all_filter P keep [] a = tt
all_filter P keep (x ∷ xs) a = elim (keep x) as (λ b. AllByRecursion P (cond b (x ∷ filter keep xs) (filter keep xs))) [
  | true ↦ (a.0, all_filter P keep xs a.1)
  | false ↦ all_filter P keep xs a.1
]

pub length-filter-le : {X : Type 0} (keep : X → Bool) (xs : List X) → length (filter keep xs) ≤ length xs
length-filter-le keep [] = omega arith
length-filter-le keep (x ∷ xs) = elim (keep x) as (λ b. length (cond b (x ∷ filter keep xs) (filter keep xs)) ≤ suc (length xs)) [
  | true ↦ omega (arith, length-filter-le keep xs)
  | false ↦ omega (arith, length-filter-le keep xs)
]
