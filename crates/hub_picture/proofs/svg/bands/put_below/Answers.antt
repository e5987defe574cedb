use Rattle.hub_picture.proofs.Reading.{then}
use Rattle.hub_picture.proofs.svg.bands.put_below.Goals as goal

pub returns : goal.returns
returns c n ns = then (c.in_ok-put_each.ensures n ns) (then (c.in_ok-put_all.ensures _ _) (c.put_each-2.ensures _ _))
