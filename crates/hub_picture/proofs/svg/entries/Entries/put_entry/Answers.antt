use Rattle.hub_picture.proofs.Reading.{then}
use Rattle.hub_picture.proofs.svg.entries.Entries.put_entry.Goals as goal

pub returns : goal.returns
returns c n ns = then (c.in_ok-put_opening.ensures n ns) (then (c.in_ok-put_shape.ensures _ _) (c.put.ensures _))
