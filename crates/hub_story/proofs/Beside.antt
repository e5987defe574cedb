-- Sends beside receives, one receive more.
use Rattle.std.proofs.Common.{◌≡◌, ◌≤◌, ◌<◌, ◌+◌, ℕ, zero, suc, List, [], ◌∷◌, ◌++◌, length, take, get_or, add-one, refl, ap, ◌∙◌, sym, arith}
use Rattle.hub_story.specs.declared.moved.Moved.{Moved}
use Rattle.hub_story.specs.declared.moved.Passage.{Passage}
use Rattle.hub_story.specs.Passing.{beside}

pub beside-none : (xs : List Moved) → beside xs [] ≡ []
beside-none [] = refl
beside-none (x ∷ xs) = refl

pub beside-next : (xs ys : List Moved) (i : ℕ) (d e : Moved) → i < length xs → i < length ys →
    beside xs (take (i + 1) ys) ≡ beside xs (take i ys) ++ record { sent = get_or xs i d; received = get_or ys i e } ∷ []
beside-next xs ys i d e hx hy = ap (λ k. beside xs (take k ys)) (add-one i) ∙ by xs ys i hx hy
  where
    by : (xs ys : List Moved) (i : ℕ) → i < length xs → i < length ys →
        beside xs (take (suc i) ys) ≡ beside xs (take i ys) ++ record { sent = get_or xs i d; received = get_or ys i e } ∷ []
    by [] ys i hx hy = absurd (omega arith)
    by (a ∷ xs) [] i hx hy = absurd (omega arith)
    by (a ∷ xs) (b ∷ ys) zero hx hy = let none = beside-none xs in cc
    by (a ∷ xs) (b ∷ ys) (suc i) hx hy = ap (λ l. record { sent = a; received = b } ∷ l) (by xs ys i (omega (arith, hx)) (omega (arith, hy)))

pub beside-kept : (xs ys : List Moved) (i : ℕ) (x d e : Moved) (all new : List Passage) → i < length xs → i < length ys → x ≡ get_or xs i d →
    all ≡ beside xs (take i ys) → new ≡ all ++ record { sent = x; received = get_or ys i e } ∷ [] → new ≡ beside xs (take (i + 1) ys)
beside-kept xs ys i x d e all new hx hy is so made =
    made ∙ ap (λ l. l ++ record { sent = x; received = get_or ys i e } ∷ []) so
    ∙ ap (λ (y : Moved). beside xs (take i ys) ++ record { sent = y; received = get_or ys i e } ∷ []) is ∙ sym (beside-next xs ys i d e hx hy)

pub beside-past : (xs ys : List Moved) (i : ℕ) → length xs ≤ i → beside xs (take i ys) ≡ beside xs ys
beside-past [] ys i h = refl
beside-past (a ∷ xs) [] zero h = refl
beside-past (a ∷ xs) [] (suc i) h = refl
beside-past (a ∷ xs) (b ∷ ys) zero h = absurd (omega arith)
beside-past (a ∷ xs) (b ∷ ys) (suc i) h = ap (λ l. record { sent = a; received = b } ∷ l) (beside-past xs ys i (omega (arith, h)))
