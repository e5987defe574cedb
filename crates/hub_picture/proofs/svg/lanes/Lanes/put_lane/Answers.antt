use Rattle.hub_picture.proofs.Reading.{then}
use Rattle.hub_picture.proofs.svg.lanes.Lanes.put_lane.Goals as goal

pub returns : goal.returns
returns c n ns = then (c.in_ok-put_line.ensures n ns) (then (c.in_ok-put_name.ensures _ _) (c.put.ensures _))
