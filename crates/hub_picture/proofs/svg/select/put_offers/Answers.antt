use Rattle.hub_picture.proofs.Reading.{elements-more, elements-none, elements-so-far}
use Rattle.hub_picture.proofs.svg.select.put_offers.Goals as goal

pub loop-place-init : goal.loop-place-init
loop-place-init c = elements-none

pub loop-place-preserved : goal.loop-place-preserved
loop-place-preserved c = elements-more c.loop-place.invariant (rw c.in-Ok.is at c.put_offer.ensures)

pub returns : goal.returns
returns c = elements-so-far c.loop-place.invariant
