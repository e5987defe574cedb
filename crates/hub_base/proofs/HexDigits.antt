-- Digits in lower case spell the bytes that they are decoded to.
use Rattle.std.proofs.Common.{◌≡◌, ℕ, zero, suc, ◌+◌, ◌-◌, ◌*◌, ◌/◌, ◌%◌, ◌<◌, Bool, true, false, ◌&&◌, List, [], ◌∷◌, slice_index, Some, Result, Ok}
use Rattle.std.proofs.Common.{Err, inl, inr}
use Rattle.std.proofs.Common.{refl, sym, ap, ◌∙◌, arith}
use Rattle.std.proofs.lemmas.Bool.{and_parts, cases_lt}
use Rattle.std.proofs.lemmas.Grind.{common_steps}
use Rattle.std.specs.Prelude.{nat_le}
use Rattle.std.specs.List.{list_all}
use Rattle.hex.specs.declared.error.FromHexError.{FromHexError}
use Rattle.hex.specs.Hex.{IsBytes, decode_of, decode_pairs, digit_or_error, encode_lower, encode_with, hex_digit_value, lower_digits, pair_value}
use Rattle.hex.specs.Hex.{value_at, ◌>>=◌}
use Rattle.hex.proofs.HexLemmas.{IsDigits-lower_digits, decode_of-even, decode_of-ok}
use Rattle.hub_base.specs.Lines.{is_hex}

-- the sixteen are such digits
abbrev first_are : ℕ → Bool
first_are zero = true
first_are (suc n) = is_hex (slice_index lower_digits n) && first_are n

digit-below : (n k : ℕ) → first_are n ≡ true → k < n → is_hex (slice_index lower_digits k) ≡ true
digit-below zero k h lt = absurd (omega arith)
digit-below (suc n) k h lt =
    let parts = and_parts (is_hex (slice_index lower_digits n)) (first_are n) h in
    elim (cases_lt k n) [
      | inl below ↦ digit-below n k parts.1 below
      | inr top ↦
          let e : k ≡ n = omega arith in
          rw e parts.0
    ]

-- the digit of a number below 16
pub digit-hex : (k : ℕ) → k < 16 → is_hex (slice_index lower_digits k) ≡ true
digit-hex k lt = digit-below 16 k refl lt

-- what bytes are spelled with
pub encoded-hex : (bs : List ℕ) → IsBytes bs → list_all is_hex (encode_lower bs) ≡ true
unfolding encode_with
encoded-hex [] bytes = refl
encoded-hex (b ∷ bs) bytes =
    let small : b < 256 = bytes 0 in
    rw (digit-hex (b / 16) (omega arith), digit-hex (b % 16) (omega arith)) (encoded-hex bs (λ i. bytes (suc i)))

-- such digits of one value are the same
one-digit : (c d : ℕ) → is_hex c ≡ true → is_hex d ≡ true → hex_digit_value c ≡ hex_digit_value d → c ≡ d
one-digit c d hc hd same = grind (arith, common_steps)

valued : (c : ℕ) → is_hex c ≡ true → (v : ℕ) × (v < 16) × (hex_digit_value c ≡ Some v)
valued c h = by (nat_le 97 c) refl where
  by : (b : Bool) → nat_le 97 c ≡ b → (v : ℕ) × (v < 16) × (hex_digit_value c ≡ Some v)
  by true high = (c - 87, grind (arith, common_steps), grind (arith, common_steps))
  by false low = (c - 48, grind (arith, common_steps), grind (arith, common_steps))

-- the digit of a digit's value is it
digit-of : (c v : ℕ) → is_hex c ≡ true → v < 16 → hex_digit_value c ≡ Some v → slice_index lower_digits v ≡ c
digit-of c v h lt is = one-digit (slice_index lower_digits v) c (digit-hex v lt) h (IsDigits-lower_digits v lt ∙ sym is)

bind_ok : {A B : Type 0} (r : Result A FromHexError) (f : A → Result B FromHexError) (y : B) → (r >>= f) ≡ Ok y → (x : A) × (r ≡ Ok x) × (f x ≡ Ok y)
bind_ok (Ok x) f y e = (x, refl, e)
bind_ok (Err k) f y e = cc

abbrev told : ℕ → Result ℕ FromHexError
told x = Ok x

abbrev told_list : List ℕ → Result (List ℕ) FromHexError
told_list xs = Ok xs

pairs-spell : (i : ℕ) (digits bs : List ℕ) → list_all is_hex digits ≡ true → decode_pairs i digits ≡ Ok bs → digits ≡ encode_lower bs
unfolding decode_pairs encode_with
pairs-spell i [] bs h e = let is : [] ≡ bs = cc in ap encode_lower is
pairs-spell i (a ∷ []) bs h e = cc
pairs-spell i (a ∷ b ∷ rest) bs h e =
    let first = and_parts (is_hex a) (list_all is_hex (b ∷ rest)) h in
    let second = and_parts (is_hex b) (list_all is_hex rest) first.1 in
    let high = valued a first.0 in
    let low = valued b second.0 in
    let pair : pair_value a b i ≡ Ok (high.0 * 16 + low.0) =
    ap (λ r. digit_or_error a i r >>= λ h. value_at b (i + 1) >>= λ l. Ok (h * 16 + l)) high.2
    ∙ ap (λ r. digit_or_error b (i + 1) r >>= λ l. Ok (high.0 * 16 + l)) low.2 in
    let begun = bind_ok (pair_value a b i) _ bs e in
    let more = bind_ok (decode_pairs (i + 2) rest) _ bs begun.2 in
    let byte : begun.0 ≡ high.0 * 16 + low.0 = one begun.0 (high.0 * 16 + low.0) (sym begun.1 ∙ pair) in
    let is : (high.0 * 16 + low.0) ∷ more.0 ≡ bs = ap (λ x. x ∷ more.0) (sym byte) ∙ one-list (begun.0 ∷ more.0) bs more.2 in
    let up : (high.0 * 16 + low.0) / 16 ≡ high.0 = omega (arith, low.1) in
    let down : (high.0 * 16 + low.0) % 16 ≡ low.0 = omega (arith, low.1) in
    ap (λ (x : ℕ). x ∷ b ∷ rest) (sym (digit-of a high.0 first.0 high.1 high.2) ∙ ap (slice_index lower_digits) (sym up))
    ∙ ap (λ (x : ℕ). slice_index lower_digits ((high.0 * 16 + low.0) / 16) ∷ x ∷ rest)
    (sym (digit-of b low.0 second.0 low.1 low.2) ∙ ap (slice_index lower_digits) (sym down))
    ∙ ap (λ (xs : List ℕ). slice_index lower_digits ((high.0 * 16 + low.0) / 16) ∷ slice_index lower_digits ((high.0 * 16 + low.0) % 16) ∷ xs)
    (pairs-spell (i + 2) rest more.0 second.1 more.1)
    ∙ ap encode_lower is where
      one : (x y : ℕ) → told x ≡ told y → x ≡ y
      one x y h = cc

      one-list : (xs ys : List ℕ) → told_list xs ≡ told_list ys → xs ≡ ys
      one-list xs ys h = cc

-- digits in lower case are the one spelling of what they are decoded to
pub hex-spells : (digits bs : List ℕ) → list_all is_hex digits ≡ true → decode_of digits ≡ Ok bs → digits ≡ encode_lower bs
hex-spells digits bs h e =
    let ok = decode_of-ok digits bs e in
    pairs-spell 0 digits bs h (sym (decode_of-even digits ok.0) ∙ e)
