use Rattle.hub_picture.proofs.Reading.{as-elements}
use Rattle.hub_picture.proofs.svg.legend.put_elements.Goals as goal

pub returns : goal.returns
returns c = as-elements c.args.text.now c.requires c.put.ensures
