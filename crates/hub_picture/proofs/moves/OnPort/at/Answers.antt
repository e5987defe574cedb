use Rattle.std.proofs.Common.{◌∙◌, ap, map, Some}
use Rattle.hub_picture.specs.Moves.{StandAt}
use Rattle.hub_picture.proofs.Places.{place-within, read-there}
use Rattle.hub_picture.proofs.moves.OnPort.at.Goals as goal

pub bounds-self-inside-places : goal.bounds-self-inside-places
bounds-self-inside-places c =
    let fields = c.self.inside in
    let stand : StandAt fields.told.now fields.places.now c.args.self.now = c.self.invariant ∙ ap (map Some) c.self.view_is in
    place-within fields.told.now fields.places.now c.args.self.now c.args.index stand c.requires.within

pub returns : goal.returns
returns c =
    let fields = c.self.inside in
    let stand : StandAt fields.told.now fields.places.now c.args.self.now = c.self.invariant ∙ ap (map Some) c.self.view_is in
    read-there fields.told.now fields.places.now c.args.self.now c.args.index c.index-self-places.result stand c.requires.within
