use Rattle.hub_picture.proofs.Reading.{then}
use Rattle.hub_picture.proofs.svg.bands.put_front.Goals as goal

pub returns : goal.returns
returns c n ns = then (c.in_ok-put_all.ensures n ns) (then (c.in_ok-put_all-2.ensures _ _) (c.put_all-3.ensures _ _))
