-- What a loop keeps of a list, one item further.
use Rattle.std.proofs.Common.{◌≡◌, ◌<◌, ◌+◌, ◌∙◌, ◌++◌, ◌∷◌, [], ℕ, Bool, true, false, List, length, get_or, drop, take, filter, map}
use Rattle.std.proofs.Common.{ap, sym, refl, add-one, append-nil, append_assoc}
use Rattle.std.specs.List.{flat_map}
use Rattle.std.proofs.Math.Seq.{take-suc}
use Rattle.std.proofs.lemmas.List.{at_drop_more}
use Rattle.std.proofs.lemmas.List.Elements.{filter-append}

so-far : {X : Type 0} (xs : List X) (i : ℕ) (d : X) → i < length xs → d ≡ get_or xs i d → take (i + 1) xs ≡ take i xs ++ d ∷ []
so-far xs i d below at = rw add-one (take-suc xs i d below) ∙ ap (λ x. take i xs ++ x ∷ []) (sym at)

-- ---- those that pass a test
pub kept : {X : Type 0} (p : X → Bool) (xs : List X) (i : ℕ) (d : X) (all new : List X) → i < length xs → d ≡ get_or xs i d →
    all ≡ filter p (take i xs) → p d ≡ true → new ≡ all ++ d ∷ [] → new ≡ filter p (take (i + 1) xs)
kept p xs i d all new below at was passes is =
    let one : filter p (d ∷ []) ≡ d ∷ [] = rw passes refl in
    is ∙ ap (λ l. l ++ d ∷ []) was ∙ ap (λ l. filter p (take i xs) ++ l) (sym one) ∙ sym (filter-append p (take i xs) (d ∷ []))
    ∙ ap (filter p) (sym (so-far xs i d below at))

pub left : {X : Type 0} (p : X → Bool) (xs : List X) (i : ℕ) (d : X) (all : List X) → i < length xs → d ≡ get_or xs i d →
    all ≡ filter p (take i xs) → p d ≡ false → all ≡ filter p (take (i + 1) xs)
left p xs i d all below at was fails =
    let none : filter p (d ∷ []) ≡ [] = rw fails refl in
    was ∙ sym (append-nil (filter p (take i xs))) ∙ ap (λ l. filter p (take i xs) ++ l) (sym none)
    ∙ sym (filter-append p (take i xs) (d ∷ [])) ∙ ap (filter p) (sym (so-far xs i d below at))

-- ---- what comes of each
pub flattened : {X Y : Type 0} (f : X → List Y) (xs : List X) (i : ℕ) (d : X) (old new all : List Y) → i < length xs → d ≡ get_or xs i d →
    old ++ flat_map f (drop i xs) ≡ all → new ≡ old ++ f d → new ++ flat_map f (drop (i + 1) xs) ≡ all
flattened f xs i d old new all below at was is =
    let rest = flat_map f (drop (i + 1) xs) in
    ap (λ l. l ++ rest) is ∙ append_assoc old (f d) rest ∙ ap (λ x. old ++ (f x ++ rest)) at
    ∙ ap (λ l. old ++ l) (sym (at_drop_more (flat_map f) xs i d below)) ∙ was

pub mapped : {X Y : Type 0} (f : X → Y) (xs : List X) (i : ℕ) (d : X) (old new all : List Y) → i < length xs → d ≡ get_or xs i d →
    old ++ map f (drop i xs) ≡ all → new ≡ old ++ f d ∷ [] → new ++ map f (drop (i + 1) xs) ≡ all
mapped f xs i d old new all below at was is =
    let rest = map f (drop (i + 1) xs) in
    ap (λ l. l ++ rest) is ∙ append_assoc old (f d ∷ []) rest ∙ ap (λ x. old ++ f x ∷ rest) at
    ∙ ap (λ l. old ++ l) (sym (at_drop_more (map f) xs i d below)) ∙ was
