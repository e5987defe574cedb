-- What the table of digits has, and how bytes and their digits grow.
use Rattle.std.proofs.Common.{◌≡◌, ℕ, zero, suc, ◌+◌, ◌*◌, ◌/◌, ◌%◌, ◌<◌, ◌==◌, Bool, true, ◌&&◌, ◌||◌, List, [], ◌∷◌, ◌++◌}
use Rattle.std.proofs.Common.{get_or, slice_index, inl, inr, refl, ap, arith}
use Rattle.std.proofs.lemmas.Bool.{and_parts, cases_lt}
use Rattle.std.proofs.lemmas.Grind.{common_steps}
use Rattle.std.specs.Prelude.{nat_lt, ◌⊎◌}
use Rattle.hub_text.specs.declared.values.TheConstants.{DIGITS}
use Rattle.hex.specs.Hex.{IsBytes, encode_lower, encode_with, lower_digits}

-- what the table has for a byte: what it is worth as a digit, or 256
abbrev is_worth : ℕ → ℕ → Bool
is_worth c v = (v == 256) || (nat_lt v 16 && (slice_index lower_digits v == c))

abbrev worths_are : ℕ → Bool
worths_are zero = true
worths_are (suc n) = is_worth n (get_or DIGITS n 0) && worths_are n

worth-below : (n c : ℕ) → worths_are n ≡ true → c < n → is_worth c (get_or DIGITS c 0) ≡ true
worth-below zero c h lt = absurd (omega arith)
worth-below (suc n) c h lt =
    let parts = and_parts (is_worth n (get_or DIGITS n 0)) (worths_are n) h in
    elim (cases_lt c n) [
      | inl below ↦ worth-below n c parts.1 below
      | inr top ↦ (let e : c ≡ n = omega arith in rw e parts.0)
    ]

pub worth_in_table : (c : ℕ) → c < 256 → (get_or DIGITS c 0 ≡ 256) ⊎ ((get_or DIGITS c 0 < 16) × (slice_index lower_digits (get_or DIGITS c 0) ≡ c))
worth_in_table c lt = let h = worth-below 256 c refl lt in grind (arith, common_steps)

-- the two digits of a byte
pub high_digit : (v w : ℕ) → w < 16 → (v * 16 + w) / 16 ≡ v
high_digit v w lt = omega arith

pub low_digit : (v w : ℕ) → w < 16 → (v * 16 + w) % 16 ≡ w
low_digit v w lt = omega arith

-- one byte more is two digits more
pub encode-push : (bs : List ℕ) (high low : ℕ) → low < 16
    → encode_lower (bs ++ (high * 16 + low) ∷ []) ≡ encode_lower bs ++ slice_index lower_digits high ∷ slice_index lower_digits low ∷ []
unfolding encode_with
encode-push [] high low small =
    let up : (high * 16 + low) / 16 ≡ high = omega (arith, small) in
    let down : (high * 16 + low) % 16 ≡ low = omega (arith, small) in
    rw (up, down) refl
encode-push (b ∷ bs) high low small =
    ap (λ ds. slice_index lower_digits (b / 16) ∷ slice_index lower_digits (b % 16) ∷ ds) (encode-push bs high low small)

pub bytes-push : (bs : List ℕ) (b : ℕ) → IsBytes bs → b < 256 → IsBytes (bs ++ b ∷ [])
bytes-push [] b all small zero = small
bytes-push [] b all small (suc i) = all i
bytes-push (c ∷ bs) b all small zero = all 0
bytes-push (c ∷ bs) b all small (suc i) = bytes-push bs b (λ j. all (suc j)) small i
