use Rattle.hub_picture.proofs.Ports.{made-strips}
use Rattle.hub_picture.proofs.shapes.all_strips.Goals as goal

pub returns : goal.returns
returns c = rw (c.deref.ensures.value, c.args.moves.now.makes, made-strips) at c.strips_of.ensures
