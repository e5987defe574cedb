use Rattle.hub_picture.proofs.Reading.{then}
use Rattle.hub_picture.proofs.svg.stalls.put_stall.Goals as goal

pub returns : goal.returns
returns c n ns = then (c.in_ok-put_opening.ensures n ns) (then (c.in_ok-put_rect.ensures _ _) (c.put.ensures _))
