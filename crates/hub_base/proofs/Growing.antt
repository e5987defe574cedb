-- A list that grows item by item, and what tests and readings give of the items so far.
use Rattle.std.proofs.Common.{◌≡◌, ◌<◌, ◌+◌, ℕ, Bool, cond, List, [], ◌∷◌, ◌++◌, length, filter, drop, refl}
use Rattle.std.proofs.Common.{ap, ◌∙◌, subst, sym, Option, Some, None, get_or, take, add-one, append-nil, append_assoc, length-append}
use Rattle.std.specs.List.{AllByRecursion, filter_map, flat_map, cons_option}
use Rattle.std.proofs.Math.Seq.{drop-cons, take-suc}
use Rattle.std.proofs.lemmas.List.{take_more}
use Rattle.std.proofs.lemmas.List.Elements.{filter_map-append, filter_more}

-- what holds behind those before it and it holds behind one more
pub noted-next : {X : Type 0} (P : List X → Type 0) (before xs : List X) (i : ℕ) (x : X) → i < length xs → x ≡ get_or xs i x →
    P (before ++ take i xs ++ x ∷ []) → P (before ++ take (i + 1) xs)
noted-next P before xs i x below is =
    subst P (append_assoc before (take i xs) (x ∷ []) ∙ ap (λ y. before ++ (take i xs ++ y ∷ [])) is
    ∙ ap (λ l. before ++ l) (sym (take_more xs i x below)))

pub filter_map-take : {X Y : Type 0} (f : X → Option Y) (xs : List X) (i : ℕ) (d : X) → i < length xs →
    filter_map f (take (i + 1) xs) ≡ filter_map f (take i xs) ++ cons_option (f (get_or xs i d)) []
filter_map-take f xs i d below =
    ap (filter_map f) (rw add-one (take-suc xs i d below)) ∙ filter_map-append f (take i xs) (get_or xs i d ∷ [])

pub kept-some : {X Y : Type 0} (f : X → Option Y) (xs : List X) (i : ℕ) (d : X) (y : Y) (before all : List Y) → i < length xs →
    f (get_or xs i d) ≡ Some y → all ≡ before ++ filter_map f (take i xs) → all ++ y ∷ [] ≡ before ++ filter_map f (take (i + 1) xs)
kept-some f xs i d y before all below gives is =
    ap (λ l. l ++ y ∷ []) is ∙ append_assoc before (filter_map f (take i xs)) (y ∷ [])
    ∙ ap (λ o. before ++ (filter_map f (take i xs) ++ cons_option o [])) (sym gives) ∙ ap (λ l. before ++ l) (sym (filter_map-take f xs i d below))

pub kept-none : {X Y : Type 0} (f : X → Option Y) (xs : List X) (i : ℕ) (d : X) (before all : List Y) → i < length xs →
    f (get_or xs i d) ≡ None → all ≡ before ++ filter_map f (take i xs) → all ≡ before ++ filter_map f (take (i + 1) xs)
kept-none f xs i d before all below gives is =
    is ∙ ap (λ l. before ++ l) (sym (append-nil (filter_map f (take i xs)))) ∙ ap (λ o. before ++ (filter_map f (take i xs) ++ cons_option o [])) (sym gives)
    ∙ ap (λ l. before ++ l) (sym (filter_map-take f xs i d below))

-- and how many a reading then gives
pub count-kept : {X Y : Type 0} (f : X → Option Y) (p : X → Bool) (xs : List X) (i : ℕ) (d : X) (old more : ℕ) → i < length xs →
    old ≡ length (filter_map f (filter p (take i xs))) → more ≡ length (filter_map f (filter p (get_or xs i d ∷ []))) →
    old + more ≡ length (filter_map f (filter p (take (i + 1) xs)))
count-kept f p xs i d old more below was adds =
    ap (λ n. n + more) was ∙ ap (λ n. length (filter_map f (filter p (take i xs))) + n) adds
    ∙ sym (ap (λ l. length (filter_map f l)) (filter_more p xs i d below)
    ∙ ap length (filter_map-append f (filter p (take i xs)) (filter p (get_or xs i d ∷ [])))
    ∙ length-append (filter_map f (filter p (take i xs))) (filter_map f (filter p (get_or xs i d ∷ []))))

-- tests that agree keep the same
pub filter-agrees : {A : Type 0} (P : A → Type 0) (p q : A → Bool) → ((x : A) → P x → p x ≡ q x) → (xs : List A) → AllByRecursion P xs →
    filter p xs ≡ filter q xs
filter-agrees P p q same [] all = refl
filter-agrees P p q same (x ∷ xs) all =
    ap (λ b. cond b (x ∷ filter p xs) (filter p xs)) (same x all.0) ∙ ap (λ l. cond (q x) (x ∷ l) l) (filter-agrees P p q same xs all.1)

-- what is appended of one item more
pub flat-next : {A : Type 0} (f : A → List ℕ) (xs : List A) (i : ℕ) (d : A) (was now text : List ℕ) → i < length xs → was ++ flat_map f (drop i xs) ≡ text →
    now ≡ was ++ f (get_or xs i d) → now ++ flat_map f (drop (i + 1) xs) ≡ text
flat-next f xs i d was now text below so is =
    ap (λ l. l ++ flat_map f (drop (i + 1) xs)) is ∙ append_assoc was (f (get_or xs i d)) (flat_map f (drop (i + 1) xs))
    ∙ ap (λ l. was ++ l) (ap (λ k. f (get_or xs i d) ++ flat_map f (drop k xs)) (add-one i) ∙ sym (ap (flat_map f) (drop-cons xs i d below))) ∙ so
