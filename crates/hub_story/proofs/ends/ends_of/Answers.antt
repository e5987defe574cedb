use Rattle.std.proofs.Common.{ap, ◌∙◌, arith}
use Rattle.hub_story.specs.Ends.{with_end}
use Rattle.hub_story.proofs.Ending.{all-places, places-next}
use Rattle.hub_story.proofs.ends.ends_of.Goals as goal

pub loop-place-preserved : goal.loop-place-preserved
loop-place-preserved c =
    let place = c.loop-place.place in
    let ends = c.loop-place.ends.items in
    let here = c.index-told-place in
    places-next c.args.told.now place here.result c.args.count ends c.note_end.new.ends.items c.loop-place-test.true c.loop-place.invariant
    (c.in_ok-note_end.ensures ∙ ap (with_end ends place) here.is)

pub returns : goal.returns
returns c =
    all-places c.args.told.now c.loop-place.place c.args.count c.loop-place.ends.items (omega arith) (omega arith) c.loop-place.invariant
