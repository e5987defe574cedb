-- Where the first line ends.
use Rattle.std.proofs.Common.{◌≡◌, ◌≢◌, ℕ, zero, suc, ◌+◌, ◌<◌, true, false, List, [], ◌∷◌, length, take, drop, get_or, refl, ap, ◌∙◌, sym, arith, ◌==◌, ◌-◌}
use Rattle.std.proofs.lemmas.Grind.{common_steps}
use Rattle.memchr.specs.Find.{Nowhere, NoneBefore, Passes, is_byte}
use Rattle.hub_base.specs.Reading.{rows, front}

not-byte : (c m : ℕ) → c ≢ m → (c == m) ≡ false
not-byte c m h = grind (arith, common_steps)

is-byte : (c m : ℕ) → c ≡ m → (c == m) ≡ true
is-byte c m h = grind (arith, common_steps)

-- without a newline there is one line, which is cut
pub rows-none : (c : ℕ) (bs : List ℕ) → ((k : ℕ) → k < length (c ∷ bs) → get_or (c ∷ bs) k 0 ≢ 10)
    → rows (c ∷ bs) ≡ record { bytes = c ∷ bs; whole = false } ∷ []
rows-none c [] h = rw (not-byte c 10 (h 0 (omega arith))) refl
rows-none c (d ∷ bs) h = rw (not-byte c 10 (h 0 (omega arith))) (ap (front c) (rows-none d bs (λ k lt. h (suc k) (omega arith))))

-- the first newline ends the first line
pub rows-some : (bs : List ℕ) (i : ℕ) → i < length bs → get_or bs i 0 ≡ 10 → ((k : ℕ) → k < i → get_or bs k 0 ≢ 10)
    → rows bs ≡ record { bytes = take i bs; whole = true } ∷ rows (drop (suc i) bs)
rows-some [] i lt at h = absurd (omega arith)
rows-some (c ∷ bs) zero lt at h = rw (is-byte c 10 at) refl
rows-some (c ∷ bs) (suc i) lt at h = rw (not-byte c 10 (h 0 (omega arith))) (ap (front c) (rows-some bs i (omega arith) at (λ k lt. h (suc k) (omega arith))))

-- as `memchr` says that there is none
pub rows-first : (bs : List ℕ) → 0 < length bs → Nowhere (Passes (is_byte 10) bs) 0 (length bs) → rows bs ≡ record { bytes = bs; whole = false } ∷ []
rows-first [] some h = absurd (omega arith)
rows-first (c ∷ bs) some h = rows-none c bs (λ k lt e. h k (omega arith) lt (is-byte _ _ e))

-- as `memchr` says where it is
pub rows-whole : (bs : List ℕ) (i : ℕ) → NoneBefore (Passes (is_byte 10) bs) 0 (length bs) i × Passes (is_byte 10) bs i →
    rows bs ≡ record { bytes = take i bs; whole = true } ∷ rows (take (length bs - (i + 1)) (drop (i + 1) bs))
rows-whole bs i h =
    let all : take (length bs - (i + 1)) (drop (i + 1) bs) ≡ drop (suc i) bs = grind (arith, common_steps) in
    rows-some bs i h.0.high (grind (arith, common_steps)) (λ k lt e. h.0.before k (omega arith) lt (is-byte _ _ e))
    ∙ ap (λ r. record { bytes = take i bs; whole = true } ∷ rows r) (sym all)
