-- `==` of two values says whether they are equal.
use Rattle.std.proofs.Common.{◌≡◌, ◌≢◌, ◌⊎◌, inl, inr, Bool, true, false, refl, rules, arith}
use Rattle.hub_base.specs.declared.value.Value.{Value}
use Rattle.hub_base.specs.contracts.value.ValuePartialEq as of_value
use Rattle.hub_base.proofs.Values.{formed-same}

abbrev pub equal : Value → Value → Bool
equal v w = (of_value.TheImpl.ghosts).eq v w

parts : (v w : Value) → equal v w ≡ true → (v.form ≡ w.form) × (v.bytes ≡ w.bytes)
parts v w h = search (rules, arith)

itself : (v w : Value) → v ≡ w → equal v w ≡ true
itself v w h = search (rules, arith)

same-value : (v w : Value) → equal v w ≡ true → v ≡ w
same-value v w h = let same = parts v w h in formed-same v.form w.form v.bytes w.bytes v.stored w.stored same.0 same.1

pub equal-tells : (v w : Value) → ((equal v w ≡ true) × (v ≡ w)) ⊎ ((equal v w ≡ false) × (v ≢ w))
equal-tells v w = by (equal v w) refl where
  by : (b : Bool) → equal v w ≡ b → ((equal v w ≡ true) × (v ≡ w)) ⊎ ((equal v w ≡ false) × (v ≢ w))
  by true h = inl (h, same-value v w h)
  by false h = inr (h, λ is. let other = itself v w is in cc)
