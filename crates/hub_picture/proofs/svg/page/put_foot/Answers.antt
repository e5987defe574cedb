use Rattle.hub_picture.proofs.Reading.{then}
use Rattle.hub_picture.proofs.svg.page.put_foot.Goals as goal

pub returns : goal.returns
returns c = then c.in_ok-put_foot_opening.ensures (then (c.in_ok-put_rows.ensures _ _) (c.put.ensures _))
