use Rattle.hub_picture.proofs.Reading.{elements-more, elements-none, elements-so-far}
use Rattle.hub_picture.proofs.pen.put_each.Goals as goal

pub loop-thing-init : goal.loop-thing-init
loop-thing-init g c = elements-none

pub loop-thing-preserved : goal.loop-thing-preserved
loop-thing-preserved g c = elements-more c.loop-thing.invariant (rw c.in-Ok.is at c.put.ensures)

pub returns : goal.returns
returns g c = elements-so-far c.loop-thing.invariant
