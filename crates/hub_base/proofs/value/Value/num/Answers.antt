-- The eight bytes, written out, are those of the number.
use Rattle.std.proofs.Common.{◌≡◌, ◌≤◌, ℕ, List, ◌∷◌, true, ap, replicate, arith, ◌∙◌}
use Rattle.std.specs.Prelude.{slice_index_or}
use Rattle.hub_base.specs.declared.limits.TheConstants.{GREATEST_VALUE}
use Rattle.hub_base.specs.Content.{is_stored}
use Rattle.hub_base.specs.Content.Content.{Num}
use Rattle.hub_base.specs.Value.{content}
use Rattle.hub_base.proofs.Values.{content-saying, number-stored, number_is}
use Rattle.hub_base.proofs.value.Value.num.Goals.{After-to_le_bytes-b}
use Rattle.hub_base.proofs.value.Value.num.Goals as goal

-- the places of a number's value, from these bytes
abbrev places_of : List ℕ → List ℕ
places_of b =
    slice_index_or b 0 0 ∷ slice_index_or b 1 0 ∷ slice_index_or b 2 0 ∷ slice_index_or b 3 0
    ∷ slice_index_or b 4 0 ∷ slice_index_or b 5 0 ∷ slice_index_or b 6 0 ∷ slice_index_or b 7 0 ∷ replicate 24 0

-- they store it
stored : (c : After-to_le_bytes-b) → is_stored 0 (places_of c.to_le_bytes-b.result) ≡ true
stored c = number-stored c.args.number _ (omega arith) (ap places_of c.to_le_bytes-b.ensures)

pub invariant_of-result : goal.invariant_of-result
invariant_of-result c = record { stored = stored c }

pub returns-clause-is : goal.returns-clause-is
returns-clause-is c = number_is c.args.number _ _ (omega arith) (ap places_of c.to_le_bytes-b.ensures)

pub returns-clause-says : goal.returns-clause-says
returns-clause-says c =
    let small : c.args.number ≤ GREATEST_VALUE = omega arith in
    ap content (number_is c.args.number _ (stored (goal.at.returns-clause-says c).After-to_le_bytes-b) small (ap places_of c.to_le_bytes-b.ensures))
    ∙ content-saying (Num c.args.number) small
