use Rattle.hub_picture.proofs.Reading.{then}
use Rattle.hub_picture.proofs.svg.waiters.OutsideRowsPenOutsider.put.Goals as goal

pub returns : goal.returns
returns c n ns = then (c.in_ok-put_outsider.ensures n ns) (then (c.in_ok-put_last.ensures _ _) (c.put.ensures _))
