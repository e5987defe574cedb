-- Newlines, and the line that ends at one.
use Rattle.std.proofs.Common.{◌≡◌, ℕ, ◌+◌, ◌==◌, Bool, true, false, cond, List, [], ◌∷◌, ◌++◌, refl, ap}
use Rattle.std.proofs.Common.{◌∙◌, sym, arith}
use Rattle.std.proofs.Common.{append_assoc}
use Rattle.std.proofs.lemmas.List.Sums.{sum_by-append}
use Rattle.hub_base.specs.Reading.{rows}
use Rattle.hub_base.proofs.Bodies.{rows-line}
use Rattle.hub_base.proofs.Numerals.{lacks}
use Rattle.hub_replay.specs.Verify.{newlines_in}
use Rattle.hub_replay.specs.Lines.{IsLine}

pub newlines_in-append : (xs ys : List ℕ) → newlines_in (xs ++ ys) ≡ newlines_in xs + newlines_in ys
newlines_in-append xs ys = sum_by-append (λ c. cond (c == 10) 1 0) xs ys

first-by : (b : Bool) (n : ℕ) → (0 + cond {A = ℕ} b 1 0) + n ≡ 0 → (b ≡ false) × (n ≡ 0)
first-by true n h = absurd (omega arith)
first-by false n h = (refl, omega arith)

-- no newline stands in it
pub lacks-none : (xs : List ℕ) → newlines_in xs ≡ 0 → lacks 10 xs ≡ true
lacks-none [] h = refl
lacks-none (c ∷ cs) h =
    let both = first-by (c == 10) (newlines_in cs) (sym (newlines_in-append (c ∷ []) cs) ∙ h) in
    rw (both.0, lacks-none cs both.1) refl

-- a line is the first row, whatever stands behind it
pub rows-of-line : (bytes body more : List ℕ) → IsLine bytes body → rows (bytes ++ more) ≡ record { bytes = body; whole = true } ∷ rows more
rows-of-line bytes body more line =
    ap (λ bs. rows (bs ++ more)) line.is ∙ ap rows (append_assoc body (10 ∷ []) more) ∙ rows-line body more (lacks-none body line.one)

pub newlines-of-line : (bytes body : List ℕ) → IsLine bytes body → newlines_in bytes ≡ 1
newlines-of-line bytes body line =
    let all = newlines_in-append body (10 ∷ []) in
    let is = ap newlines_in line.is in
    let none = line.one in
    omega (arith, all, is, none)
