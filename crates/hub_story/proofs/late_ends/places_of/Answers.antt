use Rattle.std.proofs.Common.{◌<◌, ◌∙◌, ap, arith, length, sym}
use Rattle.std.proofs.lemmas.Option.{get_or_from_slice_get}
use Rattle.hub_story.specs.Ends.{with_end}
use Rattle.hub_story.proofs.Ending.{all-places, places-next}
use Rattle.hub_story.proofs.late_ends.places_of.Goals as goal

pub loop-place-preserved : goal.loop-place-preserved
loop-place-preserved c =
    let all = c.args.ended.now in
    let place = c.loop-place.place in
    let t = c.told.result in
    let below : place < length all = omega (arith, c.loop-place-test.true, c.len-place-end.ensures) in
    places-next all place t c.args.count c.loop-place.places.items c.note_end.new.ends.items below c.loop-place.invariant
    (c.in_ok-note_end.ensures ∙ ap (with_end c.loop-place.places.items place) (sym (get_or_from_slice_get all place t t c.told.ensures)))

pub returns : goal.returns
returns c =
    all-places c.args.ended.now c.loop-place.place c.args.count c.loop-place.places.items
    (omega (arith, c.loop-place-test.false, c.len-place-end.ensures)) (omega (arith, c.loop-place.auto.place-end, c.len-place-end.ensures))
    c.loop-place.invariant
