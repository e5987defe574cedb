-- Numbers, words, and bytes without a mark.
use Rattle.std.proofs.Common.{◌≡◌, ◌≢◌, ℕ, ◌≤◌, ◌<◌, ◌^◌, Bool, true, false, cond, List, [], ◌∷◌, ◌++◌}
use Rattle.std.proofs.Common.{length, refl, ap, ◌∙◌, sym, Some, Ok, arith, get_or, not, ◌&&◌, ◌==◌}
use Rattle.std.proofs.lemmas.Bool.{and_parts}
use Rattle.std.proofs.lemmas.Grind.{common_steps}
use Rattle.std.specs.Prelude.{decimal}
use Rattle.std.specs.List.{list_all, join_with_byte}
use Rattle.std.specs.Char.{is_ascii_digit}
use Rattle.std.specs.Str.Parse.{digits_value}
use Rattle.hub_base.specs.declared.read_fault.Kind.TheVariants.{BadNumber}
use Rattle.hub_base.specs.Lines.{number, one_number, is_numeral, numeral, must, same_text, pieces, join_front}
use Rattle.hub_base.proofs.Decimals.{digits-of, value-of, some-of, lead-of}

numeral-shape : (bs : List ℕ) → 0 < length bs → list_all is_ascii_digit bs ≡ true → (1 < length bs → get_or bs 0 0 ≢ 48) → is_numeral bs ≡ true
numeral-shape [] some ds lead = absurd (omega arith)
numeral-shape (c ∷ []) some ds lead = grind (arith, common_steps)
numeral-shape (c ∷ d ∷ cs) some ds lead = let first : c ≢ 48 = lead (omega arith) in grind (arith, common_steps)

one-fits : (v n most : ℕ) → v ≡ n → n ≤ most → one_number true v most ≡ Some n
one-fits v n most e h = grind (arith, common_steps)

-- a decimal is read as its number
pub number-again : (most n : ℕ) → most < 2 ^ 64 → n ≤ most → number most (decimal n) ≡ Some n
number-again most n wide fits =
    let small : n < 2 ^ 64 = omega arith in
    let shape : is_numeral (decimal n) ≡ true =
    numeral-shape (decimal n) (some-of (decimal n) n small refl) (digits-of (decimal n) n small refl) (lead-of (decimal n) n small refl) in
    let value : digits_value 10 (decimal n) ≡ n = value-of (decimal n) n small refl in
    ap (λ b. one_number b (digits_value 10 (decimal n)) most) shape ∙ one-fits (digits_value 10 (decimal n)) n most value fits

-- and so is a field of one
pub numeral-again : (most n : ℕ) → most < 2 ^ 64 → n ≤ most → numeral most (decimal n) ≡ Ok n
numeral-again most n wide fits = ap (must BadNumber) (number-again most n wide fits)

-- the same bytes
pub same-true : (xs ys : List ℕ) → same_text xs ys ≡ true → xs ≡ ys
same-true [] [] h = refl
same-true [] (y ∷ ys) h = cc
same-true (x ∷ xs) [] h = cc
same-true (x ∷ xs) (y ∷ ys) h =
    let both = and_parts (x == y) (same_text xs ys) h in
    let head : x ≡ y = grind (arith, common_steps, both.0) in
    ap (λ z. z ∷ xs) head ∙ ap (λ zs. y ∷ zs) (same-true xs ys both.1)

-- no byte is the mark
abbrev pub lacks : ℕ → List ℕ → Bool
lacks mark [] = true
lacks mark (c ∷ cs) = not (c == mark) && lacks mark cs

-- a mark in neither part is not in the whole
pub lacks-append : (mark : ℕ) (xs ys : List ℕ) → lacks mark xs ≡ true → lacks mark ys ≡ true → lacks mark (xs ++ ys) ≡ true
lacks-append mark [] ys h k = k
lacks-append mark (x ∷ xs) ys h k =
    let both = and_parts (not (x == mark)) (lacks mark xs) h in
    rw (both.0, lacks-append mark xs ys both.1 k) refl

-- a mark that is none of these bytes
pub all-lack : (P : ℕ → Bool) (mark : ℕ) (xs : List ℕ) → ((c : ℕ) → P c ≡ true → not (c == mark) ≡ true)
    → list_all P xs ≡ true → lacks mark xs ≡ true
all-lack P mark [] h d = refl
all-lack P mark (x ∷ xs) h d =
    let both = and_parts (P x) (list_all P xs) d in
    rw (h x both.0, all-lack P mark xs h both.1) refl

no-mark : (mark : ℕ) → mark < 35 → (c : ℕ) → is_ascii_digit c ≡ true → not (c == mark) ≡ true
no-mark mark low c d = grind (arith, common_steps)

no-colon : (c : ℕ) → is_ascii_digit c ≡ true → not (c == 58) ≡ true
no-colon c d = grind (arith, common_steps)

-- no mark below those of values stands in a decimal
pub decimal-lacks : (mark n : ℕ) → mark < 35 → n < 2 ^ 64 → lacks mark (decimal n) ≡ true
decimal-lacks mark n low small = all-lack is_ascii_digit mark (decimal n) (no-mark mark low) (digits-of (decimal n) n small refl)

-- and no colon
pub decimal-lacks-colon : (n : ℕ) → n < 2 ^ 64 → lacks 58 (decimal n) ≡ true
decimal-lacks-colon n small = all-lack is_ascii_digit 58 (decimal n) no-colon (digits-of (decimal n) n small refl)

pub not-true : (b : Bool) → not b ≡ true → b ≡ false
not-true true h = cc
not-true false h = refl

-- without a mark there is one piece
pub pieces-last : (mark : ℕ) (bs : List ℕ) → lacks mark bs ≡ true → pieces mark bs ≡ bs ∷ []
pieces-last mark [] h = refl
pieces-last mark (c ∷ cs) h =
    let both = and_parts (not (c == mark)) (lacks mark cs) h in
    rw (not-true (c == mark) both.0) (ap (join_front c) (pieces-last mark cs both.1))

same-byte : (m : ℕ) → (m == m) ≡ true
same-byte m = grind (arith, common_steps)

-- before a mark ends a piece
pub pieces-more : (mark : ℕ) (bs rest : List ℕ) → lacks mark bs ≡ true → pieces mark (bs ++ mark ∷ rest) ≡ bs ∷ pieces mark rest
pieces-more mark [] rest h = rw (same-byte mark) refl
pieces-more mark (c ∷ cs) rest h =
    let both = and_parts (not (c == mark)) (lacks mark cs) h in
    rw (not-true (c == mark) both.0) (ap (join_front c) (pieces-more mark cs rest both.1))

-- the mark stands in none of these
abbrev pub all_lack : ℕ → List (List ℕ) → Bool
all_lack mark [] = true
all_lack mark (f ∷ fs) = lacks mark f && all_lack mark fs

-- what was joined by marks is cut into the same
pub pieces-joined : (mark : ℕ) (f : List ℕ) (fs : List (List ℕ)) → all_lack mark (f ∷ fs) ≡ true → pieces mark (join_with_byte mark (f ∷ fs)) ≡ f ∷ fs
pieces-joined mark f [] h = pieces-last mark f (and_parts (lacks mark f) true h).0
pieces-joined mark f (g ∷ gs) h =
    let both = and_parts (lacks mark f) (all_lack mark (g ∷ gs)) h in
    pieces-more mark f (join_with_byte mark (g ∷ gs)) both.0 ∙ ap (λ ps. f ∷ ps) (pieces-joined mark g gs both.1)

front-some : (c : ℕ) (ps : List (List ℕ)) → join_front c ps ≡ [] → ⊥
front-some c [] e = cc
front-some c (p ∷ ps) e = cc

cond-some : (t : Bool) (c : ℕ) (ps : List (List ℕ)) → cond t ([] ∷ ps) (join_front c ps) ≡ [] → ⊥
cond-some true c ps e = cc
cond-some false c ps e = front-some c ps e

-- there is at least one piece
pub pieces-some : (mark : ℕ) (bs : List ℕ) → pieces mark bs ≡ [] → ⊥
pieces-some mark [] e = cc
pieces-some mark (c ∷ cs) e = cond-some (c == mark) c (pieces mark cs) e

joined-front : (mark c : ℕ) (p : List ℕ) (ps : List (List ℕ)) → join_with_byte mark ((c ∷ p) ∷ ps) ≡ c ∷ join_with_byte mark (p ∷ ps)
joined-front mark c p [] = refl
joined-front mark c p (q ∷ ps) = refl

-- what is cut is put together again
joined-step : (mark c : ℕ) (cs : List ℕ) (b : Bool) (ps : List (List ℕ)) → (c == mark) ≡ b → ps ≢ [] → join_with_byte mark ps ≡ cs
    → join_with_byte mark (cond b ([] ∷ ps) (join_front c ps)) ≡ c ∷ cs
joined-step mark c cs b [] e some h = absurd (some refl)
joined-step mark c cs true (p ∷ ps) e some h = let is : c ≡ mark = grind (arith, common_steps) in ap (λ r. mark ∷ r) h ∙ ap (λ m. m ∷ cs) (sym is)
joined-step mark c cs false (p ∷ ps) e some h = joined-front mark c p ps ∙ ap (λ r. c ∷ r) h

-- what was cut is joined to the same
pub joined-pieces : (mark : ℕ) (bs : List ℕ) → join_with_byte mark (pieces mark bs) ≡ bs
joined-pieces mark [] = refl
joined-pieces mark (c ∷ cs) = joined-step mark c cs (c == mark) (pieces mark cs) refl (pieces-some mark cs) (joined-pieces mark cs)

-- another mark stands in no such text
pub lacks-joined : (m : ℕ) (f : List ℕ) (fs : List (List ℕ)) → (32 == m) ≡ false → all_lack m (f ∷ fs) ≡ true → lacks m (join_with_byte 32 (f ∷ fs)) ≡ true
lacks-joined m f [] other h = (and_parts (lacks m f) true h).0
lacks-joined m f (g ∷ gs) other h =
    let both = and_parts (lacks m f) (all_lack m (g ∷ gs)) h in
    lacks-append m f (32 ∷ join_with_byte 32 (g ∷ gs)) both.0 (rw other (lacks-joined m g gs other both.1))
