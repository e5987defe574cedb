use Rattle.hub_picture.proofs.Reading.{elements-more, elements-none, elements-so-far}
use Rattle.hub_picture.proofs.svg.lanes.put_ticks.Goals as goal

pub loop-step-init : goal.loop-step-init
loop-step-init c = elements-none

pub loop-step-preserved : goal.loop-step-preserved
loop-step-preserved c = elements-more c.loop-step.invariant (rw c.in-Ok.is at c.put_tick_in.ensures)

pub returns : goal.returns
returns c = elements-so-far c.loop-step.invariant
