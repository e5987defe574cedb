-- How many of some entries are no exits.
use Rattle.std.proofs.Common.{◌≡◌, ℕ, zero, suc, ◌+◌, ◌≤◌, Bool, true, false, cond, List, [], ◌∷◌, ◌++◌, length, take, Some, ap, arith}
use Rattle.std.specs.Prelude.{slice_get}
use Rattle.hub_base.specs.Entry.{Entry}
use Rattle.hub_base.specs.Reading.{is_exit}
use Rattle.hub_base.specs.Text.{one_step, steps_of}

pub steps-append : (xs ys : List Entry) → steps_of (xs ++ ys) ≡ steps_of xs + steps_of ys
steps-append [] ys = omega arith
steps-append (x ∷ xs) ys = omega (arith, steps-append xs ys)

-- with one entry more
pub steps-snoc : (es : List Entry) (e : Entry) → steps_of (es ++ e ∷ []) ≡ steps_of es + one_step e
steps-snoc es e = omega (arith, steps-append es (e ∷ []))

at-most-one : (b : Bool) → cond b 0 1 ≤ 1
at-most-one true = omega arith
at-most-one false = omega arith

pub steps-length : (es : List Entry) → steps_of es ≤ length es
steps-length [] = omega arith
steps-length (e ∷ es) = omega (arith, at-most-one (is_exit e.step), steps-length es)

-- up to an entry, and its own
pub steps-there : (n : ℕ) (es : List Entry) (e : Entry) → slice_get es n ≡ Some e → steps_of (take n es) + one_step e ≤ steps_of es
steps-there n [] e there = absurd (cc)
steps-there zero (f ∷ fs) e there = let here : f ≡ e = cc in omega (arith, ap one_step here)
steps-there (suc n) (f ∷ fs) e there = omega (arith, steps-there n fs e there)
