-- Entries by their places.
use Rattle.std.proofs.Common.{◌≡◌, ◌∙◌, ℕ, ◌+◌, ◌≤◌, ◌<◌, Bool, true, List, [], ◌∷◌, ◌++◌, Some, ap, sym, zero, suc, arith, length, take, drop}
use Rattle.std.specs.List.{list_all}
use Rattle.std.specs.Prelude.{slice_get}
use Rattle.std.proofs.lemmas.Bool.{and_parts}
use Rattle.std.proofs.lemmas.List.{length-take, take-append-drop}
use Rattle.std.proofs.lemmas.Option.{slice_get_within}
use Rattle.std.proofs.Math.Seq.{take-length}
use Rattle.hub_laws.proofs.Totals.{take_next}

-- where one of two lists has an entry at a place, and both are the same before it, the other has so many
pub reaches : {A : Type 0} (n : ℕ) (xs ys : List A) (y : A) → take n xs ≡ take n ys → slice_get ys n ≡ Some y → n ≤ length xs
reaches n xs ys y same there =
    let within : n < length ys = slice_get_within ys n y there in
    omega (arith, length-take n xs, length-take n ys, ap length same)

-- both have it: they are the same behind it too
pub same_next : {A : Type 0} (n : ℕ) (xs ys : List A) (x : A) → take n xs ≡ take n ys → slice_get xs n ≡ Some x → slice_get ys n ≡ Some x
    → take (n + 1) xs ≡ take (n + 1) ys
same_next n xs ys x same at_xs at_ys = take_next xs n x at_xs ∙ ap (λ zs. zs ++ x ∷ []) same ∙ sym (take_next ys n x at_ys)

-- the same up to the end of one list: the other begins with it
pub begins : {A : Type 0} (xs ys : List A) → take (length ys) xs ≡ take (length ys) ys → xs ≡ ys ++ drop (length ys) xs
begins xs ys same = sym (take-append-drop (length ys) xs) ∙ ap (λ zs. zs ++ drop (length ys) xs) (same ∙ take-length ys)

-- what stands in a list stands in a longer one
pub still_there : {A : Type 0} (n : ℕ) (xs ys : List A) (x : A) → slice_get xs n ≡ Some x → slice_get (xs ++ ys) n ≡ Some x
still_there n [] ys x there = cc
still_there zero (z ∷ zs) ys x there = there
still_there (suc n) (z ∷ zs) ys x there = still_there n zs ys x there

-- what holds of all holds there
pub all_there : {A : Type 0} (f : A → Bool) (n : ℕ) (xs : List A) (x : A) → list_all f xs ≡ true → slice_get xs n ≡ Some x → f x ≡ true
all_there f n [] x all there = cc
all_there f zero (z ∷ zs) x all there = let here : z ≡ x = cc in ap f (sym here) ∙ (and_parts (f z) (list_all f zs) all).0
all_there f (suc n) (z ∷ zs) x all there = all_there f n zs x (and_parts (f z) (list_all f zs) all).1 there
