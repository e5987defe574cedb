use Rattle.hub_picture.proofs.Reading.{then}
use Rattle.hub_picture.proofs.svg.arrows.put_arrow.Goals as goal

pub returns : goal.returns
returns c n ns =
    then (c.in_ok-put_opening.ensures n ns) (then (c.in_ok-put_title.ensures _ _)
    (then (c.in_ok-put_body.ensures _ _) (c.put.ensures _)))
