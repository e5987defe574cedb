-- The value of digits, digit by digit.
use Rattle.std.proofs.Common.{◌≡◌, ℕ, suc, ◌+◌, ◌-◌, ◌*◌, ◌≤◌, ◌<◌, Bool, true, false, List, [], ◌∷◌, length, drop, get_or}
use Rattle.std.proofs.Common.{refl, ap, ◌∙◌, sym, Option, None, arith, ◌&&◌, add-one, drop-cons, not, ◌==◌, ◌||◌}
use Rattle.std.proofs.lemmas.Grind.{common_steps}
use Rattle.std.proofs.lemmas.Str.{digit_value_digit}
use Rattle.std.specs.List.{list_all}
use Rattle.std.specs.Char.{is_ascii_digit, digit_value}
use Rattle.std.specs.Int.{IsInRange}
use Rattle.std.specs.Str.Parse.{digits_value, digits_value_after}
use Rattle.hub_base.specs.Lines.{one_number, number}

-- the number of digits behind those that made n
abbrev pub valued : ℕ → ℕ → List ℕ → Option ℕ
valued most n bs = one_number (list_all is_ascii_digit bs) (digits_value_after 10 n bs) most

grows : (n : ℕ) (bs : List ℕ) → n ≤ digits_value_after 10 n bs
grows n [] = omega arith
grows n (c ∷ cs) = let h = grows (n * 10 + digit_value c) cs in omega (arith, h)

digit-range : (c : ℕ) → is_ascii_digit c ≡ true → IsInRange 48 57 c
digit-range c h = grind (arith, common_steps)

step : (most n m c : ℕ) (cs : List ℕ) → is_ascii_digit c ≡ true → m + 48 ≡ n * 10 + c → valued most n (c ∷ cs) ≡ valued most m cs
step most n m c cs h e =
    let d = digit_value_digit c (digit-range c h) in
    let next : n * 10 + digit_value c ≡ m = omega (arith, d) in
    ap (λ b. one_number (b && list_all is_ascii_digit cs) (digits_value_after 10 (n * 10 + digit_value c) cs) most) h
    ∙ ap (λ m. one_number (list_all is_ascii_digit cs) (digits_value_after 10 m cs) most) next

above : (b : Bool) (v most : ℕ) → most < v → one_number b v most ≡ None
above false v most h = refl
above true v most h = grind (arith, common_steps)

-- one more digit
pub valued-step : (most n m : ℕ) (bs : List ℕ) (i : ℕ) → i < length bs → is_ascii_digit (get_or bs i 0) ≡ true → m + 48 ≡ n * 10 + get_or bs i 0
    → valued most n (drop i bs) ≡ valued most m (drop (i + 1) bs)
valued-step most n m bs i lt h e = rw (add-one, drop-cons bs i 0) (step most n m (get_or bs i 0) (drop (suc i) bs) h e)

-- a byte that is no digit
pub valued-bad : (most n : ℕ) (bs : List ℕ) (i : ℕ) → i < length bs → is_ascii_digit (get_or bs i 0) ≡ false → valued most n (drop i bs) ≡ None
valued-bad most n bs i lt h = rw (drop-cons bs i 0)
    (ap (λ b. one_number (b && list_all is_ascii_digit (drop (suc i) bs)) (digits_value_after 10 n (get_or bs i 0 ∷ drop (suc i) bs)) most) h)

-- a digit that makes it too great
pub valued-over : (most n m : ℕ) (bs : List ℕ) (i : ℕ) → i < length bs → is_ascii_digit (get_or bs i 0) ≡ true
    → m + 48 ≡ n * 10 + get_or bs i 0 → most < m → valued most n (drop i bs) ≡ None
valued-over most n m bs i lt h e big =
    let g = grows m (drop (i + 1) bs) in
    valued-step most n m bs i lt h e ∙ above (list_all is_ascii_digit (drop (i + 1) bs)) (digits_value_after 10 m (drop (i + 1) bs)) most (omega (arith, g))

and-one : (b : Bool) → (b && true) ≡ b
and-one true = refl
and-one false = refl

-- a numeral has no zero in front of other digits
pub numeral-of : (most : ℕ) (bs : List ℕ) → 0 < length bs → (1 < length bs → get_or bs 0 0 ≡ 48 → ⊥) → valued most 0 bs ≡ number most bs
numeral-of most [] some lead = absurd (omega arith)
numeral-of most (c ∷ []) some lead =
    let one : (not (c == 48) || (length {A = ℕ} [] == 0)) ≡ true = grind (arith, common_steps) in
    ap (λ b. one_number b (digits_value 10 (c ∷ [])) most)
    (sym (ap (λ t. list_all is_ascii_digit (c ∷ []) && t) one ∙ and-one (list_all is_ascii_digit (c ∷ []))))
numeral-of most (c ∷ d ∷ cs) some lead =
    let other : c ≡ 48 → ⊥ = lead (omega arith) in
    let one : (not (c == 48) || (length (d ∷ cs) == 0)) ≡ true = grind (arith, common_steps) in
    ap (λ b. one_number b (digits_value 10 (c ∷ d ∷ cs)) most)
    (sym (ap (λ t. list_all is_ascii_digit (c ∷ d ∷ cs) && t) one ∙ and-one (list_all is_ascii_digit (c ∷ d ∷ cs))))

-- a zero with anything behind it is no number
pub numeral-not : (most c d : ℕ) (cs : List ℕ) → c ≡ 48 → number most (c ∷ d ∷ cs) ≡ None
numeral-not most c d cs h =
    let zero : (not (c == 48) || (length (d ∷ cs) == 0)) ≡ false = grind (arith, common_steps) in
    ap (λ b. one_number b (digits_value 10 (c ∷ d ∷ cs)) most)
    (ap (λ t. list_all is_ascii_digit (c ∷ d ∷ cs) && t) zero ∙ none (list_all is_ascii_digit (c ∷ d ∷ cs))) where
      none : (b : Bool) → (b && false) ≡ false
      none true = refl
      none false = refl

-- and so by its first byte
pub numeral-lead : (most : ℕ) (bs : List ℕ) → 1 < length bs → get_or bs 0 0 ≡ 48 → number most bs ≡ None
numeral-lead most [] long h = absurd (omega arith)
numeral-lead most (c ∷ []) long h = absurd (omega arith)
numeral-lead most (c ∷ d ∷ cs) long h = numeral-not most c d cs h

-- a digit that makes it too great, as the code tests it
pub valued-past : (most n : ℕ) (bs : List ℕ) (i : ℕ) → i < length bs → is_ascii_digit (get_or bs i 0) ≡ true → most < n * 10 + (get_or bs i 0 - 48)
    → valued most n (drop i bs) ≡ None
valued-past most n bs i lt h big =
    let r = digit-range (get_or bs i 0) h in
    valued-over most n (n * 10 + (get_or bs i 0 - 48)) bs i lt h (omega (arith, r)) big
