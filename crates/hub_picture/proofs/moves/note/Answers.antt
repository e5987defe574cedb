use Rattle.std.proofs.Common.{◌∙◌, ◌++◌, ap, sym}
use Rattle.hub_story.specs.OfPorts.{things_on}
use Rattle.hub_picture.proofs.Places.{place-none, place-one}
use Rattle.hub_picture.proofs.moves.note.Goals as goal

pub returns-in_default : goal.returns-in_default
returns-in_default c q =
    place-none c.args.entries.now q c.args.told.now c.args.place (things_on c.args.all.now q) (sym c.move_of.ensures.value ∙ c.in_default.is)

pub returns : goal.returns
returns c q =
    c.in_ok-push.ensures q
    ∙ ap (λ l. things_on c.args.all.now q ++ l)
    (place-one c.args.entries.now q c.in-Some.moved c.args.told.now c.args.place (sym c.move_of.ensures.value ∙ c.in-Some.is))
