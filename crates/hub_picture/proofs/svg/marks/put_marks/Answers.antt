use Rattle.hub_picture.specs.Xml.State.{Inside}
use Rattle.hub_picture.proofs.svg.marks.put_marks.Goals as goal

pub returns : goal.returns
returns c name around = c.put.ensures (Inside name around)
