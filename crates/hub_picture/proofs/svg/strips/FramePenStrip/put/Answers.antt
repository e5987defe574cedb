use Rattle.hub_picture.proofs.Reading.{then}
use Rattle.hub_picture.proofs.svg.strips.FramePenStrip.put.Goals as goal

pub returns : goal.returns
returns c n ns = then (c.in_ok-put_strip_opening.ensures n ns) (then (c.in_ok-put_strip_body.ensures _ _) (c.put.ensures _))
