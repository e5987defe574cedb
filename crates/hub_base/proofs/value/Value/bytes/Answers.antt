use Rattle.std.proofs.Common.{◌≡◌, ◌≤◌, ◌∙◌, length, ap, arith, drop_of_length-le, take}
use Rattle.std.proofs.lemmas.List.{take_all}
use Rattle.std.proofs.lemmas.Slice.{drop-append-drop}
use Rattle.hub_base.proofs.Values.{zeros_behind}
use Rattle.hub_base.proofs.value.Value.bytes.Goals.{In-Ok}
use Rattle.hub_base.proofs.value.Value.bytes.Goals as goal

-- bytes that fill their places are all of them
full : (c : In-Ok) → (length c.in-Ok.places ≤ 32) × (take 32 c.in-Ok.places ≡ c.args.bytes.now)
full c =
    let whole = c.try_from.ensures.1 in
    let count : length c.in-Ok.places ≤ 32 = grind arith in
    let same : c.in-Ok.places ≡ c.args.bytes.now = grind arith in
    (count, take_all 32 c.in-Ok.places count ∙ same)

pub of_places-requires-clause-zeros : goal.of_places-requires-clause-zeros
of_places-requires-clause-zeros c = drop_of_length-le c.in-Ok.places (full c).0

pub returns-in-Ok-clause-is : goal.returns-in-Ok-clause-is
returns-in-Ok-clause-is c = search (c.of_places.ensures.is, (full (goal.at.returns-in-Ok-clause-is c).In-Ok).1)

pub returns-in-Ok-clause-says : goal.returns-in-Ok-clause-says
returns-in-Ok-clause-says c = search (c.of_places.ensures.says, (full (goal.at.returns-in-Ok-clause-says c).In-Ok).1)

pub of_places-requires-2-clause-zeros : goal.of_places-requires-2-clause-zeros
of_places-requires-2-clause-zeros c =
    drop-append-drop _ _ c.copy_from_slice.new.self _ (omega arith) (ap length c.copy_from_slice.ensures.after) ∙ zeros_behind c.args.bytes.now
