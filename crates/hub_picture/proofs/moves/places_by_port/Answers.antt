use Rattle.std.proofs.Common.{◌∙◌, ◌++◌, ap}
use Rattle.hub_story.specs.declared.told.Told.{Told}
use Rattle.hub_story.specs.OfPorts.{things_on}
use Rattle.hub_picture.specs.Moves.{place_on}
use Rattle.hub_picture.proofs.Places.{place-next}
use Rattle.hub_picture.proofs.moves.places_by_port.Goals as goal

pub loop-place-preserved : goal.loop-place-preserved
loop-place-preserved c q =
    let i = c.loop-place.place in
    place-next c.args.entries.now c.args.told.now q i c.index-told-place.result (things_on c.loop-place.all q) (things_on c.note.new.all q)
    c.loop-place-test.true (c.loop-place.invariant q)
    (c.in_ok-note.ensures q ∙ ap (λ (t : Told). things_on c.loop-place.all q ++ place_on c.args.entries.now q t i) c.index-told-place.is)
