-- Fields joined by spaces, and fields each behind a space.
use Rattle.std.proofs.Common.{◌≡◌, ℕ, zero, suc, Bool, true, false, ◌⊎◌, inl, inr, Ok, List, [], ◌∷◌, ◌++◌, length, map}
use Rattle.std.proofs.Common.{refl, ap, ◌∙◌, sym, append_assoc, append-nil}
use Rattle.std.specs.List.{join_with_byte}
use Rattle.hub_base.specs.declared.case.Case.{Case}
use Rattle.hub_base.specs.Lines.{case_field, call, spelled}
use Rattle.hub_text.specs.Writing.{spaced, spaced_cases}

-- fields joined by spaces are the first, and the others each behind a space
pub join-spaced : (f : List ℕ) (fs : List (List ℕ)) → join_with_byte 32 (f ∷ fs) ≡ f ++ spaced fs
join-spaced f [] = sym (append-nil f)
join-spaced f (g ∷ fs) = ap (λ r. f ++ 32 ∷ r) (join-spaced g fs)

-- the cases of a select, and then the others
pub spaced-select : (cs : List Case) (gs : List (List ℕ)) → spaced (map case_field cs ++ gs) ≡ spaced_cases cs ++ spaced gs
spaced-select [] gs = refl
spaced-select (c ∷ cs) gs = ap (λ r. 32 ∷ (case_field c ++ r)) (spaced-select cs gs)
    ∙ ap (λ r. 32 ∷ r) (sym (append_assoc (case_field c) (spaced_cases cs) (spaced gs)))

-- a select that is no plain send or receive, by the tests of the code
pub no-short-form : (cases : List Case) (count : ℕ) (default : Bool) (w : ℕ) → count ≡ length cases
    → (count ≡ 1 × default ≡ false × (w ≡ 0 → ⊥)) ⊎ ((count ≡ 1 × default ≡ true) ⊎ (count ≡ 1 → ⊥))
    → spelled cases default w ≡ Ok (call cases default w)
no-short-form [] count default w counted tests = refl
no-short-form (c ∷ []) count true w counted tests = refl
no-short-form (c ∷ []) count false zero counted (inl (one, plain, some)) = absurd (some refl)
no-short-form (c ∷ []) count false zero counted (inr (inl (one, last))) = cc
no-short-form (c ∷ []) count false zero counted (inr (inr more)) = absurd (more counted)
no-short-form (c ∷ []) count false (suc w) counted tests = refl
no-short-form (c ∷ d ∷ more) count default w counted tests = refl
