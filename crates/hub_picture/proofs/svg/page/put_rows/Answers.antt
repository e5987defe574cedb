use Rattle.hub_picture.proofs.Reading.{then}
use Rattle.hub_picture.proofs.svg.page.put_rows.Goals as goal

pub returns : goal.returns
returns c n ns = then (c.in_ok-put_deadlock.ensures n ns) (then (c.in_ok-put_each.ensures _ _) (c.put_each-2.ensures _ _))
