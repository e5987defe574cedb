-- What follows where a reading answers Ok.
use Rattle.std.proofs.Common.{◌≡◌, ℕ, ◌≤◌, ◌<◌, ◌^◌, Bool, true, false, List, [], ◌∷◌, refl, ap, ◌∙◌, Some, Result, Ok, Err, arith}
use Rattle.std.proofs.lemmas.Grind.{common_steps}
use Rattle.std.specs.Prelude.{decimal}
use Rattle.std.specs.Str.Parse.{digits_value}
use Rattle.hub_base.specs.declared.read_fault.Kind.{Kind}
use Rattle.hub_base.specs.Lines.{number, one_number, is_numeral, numeral, ◌>>=◌}
use Rattle.hub_base.proofs.Decimals.{spelled}

-- a reading of two parts that answers Ok did so at both
pub bind_ok : {A B : Type 0} (r : Result A Kind) (f : A → Result B Kind) (y : B) → (r >>= f) ≡ Ok y → (x : A) × (r ≡ Ok x) × (f x ≡ Ok y)
bind_ok (Ok x) f y e = (x, refl, e)
bind_ok (Err k) f y e = cc

is-spelled : (bs : List ℕ) → is_numeral bs ≡ true → digits_value 10 bs < 2 ^ 64 → bs ≡ decimal (digits_value 10 bs)
is-spelled [] h small = cc
is-spelled (c ∷ cs) h small = spelled (c ∷ cs) (grind (arith, common_steps)) (grind (arith, common_steps)) (grind (arith, common_steps)) small

one-some : (t : Bool) (v n most : ℕ) → one_number t v most ≡ Some n → (t ≡ true) × (v ≡ n) × (n ≤ most)
one-some false v n most e = cc
one-some true v n most e = grind (arith, common_steps)

-- what is read as a number is its spelling
pub number-ok : (most : ℕ) (bs : List ℕ) (n : ℕ) → most < 2 ^ 64 → number most bs ≡ Some n → (bs ≡ decimal n) × (n ≤ most)
number-ok most bs n wide some =
    let o = one-some (is_numeral bs) (digits_value 10 bs) n most some in
    (is-spelled bs o.0 (omega arith) ∙ ap decimal o.1, o.2)

-- and so is a field
pub numeral-ok : (most : ℕ) (bs : List ℕ) (n : ℕ) → most < 2 ^ 64 → numeral most bs ≡ Ok n → (bs ≡ decimal n) × (n ≤ most)
numeral-ok most bs n wide e =
    let some : number most bs ≡ Some n = (grind (arith, common_steps)) in
    let o = one-some (is_numeral bs) (digits_value 10 bs) n most some in
    (is-spelled bs o.0 (omega arith) ∙ ap decimal o.1, o.2)
