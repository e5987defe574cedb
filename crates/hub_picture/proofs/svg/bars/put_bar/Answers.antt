use Rattle.hub_picture.proofs.Reading.{then}
use Rattle.hub_picture.proofs.svg.bars.put_bar.Goals as goal

pub returns : goal.returns
returns c n ns = then (c.in_ok-put_rect.ensures n ns) (c.put_knob_in.ensures _ _)
