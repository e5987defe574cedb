use Rattle.hub_picture.proofs.Reading.{then}
use Rattle.hub_picture.proofs.svg.bands.put_shapes.Goals as goal

pub returns : goal.returns
returns c n ns = then (c.in_ok-put_back.ensures n ns) (then (c.in_ok-put_below.ensures _ _) (c.put_front.ensures _ _))
