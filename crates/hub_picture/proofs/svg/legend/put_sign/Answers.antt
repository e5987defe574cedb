use Rattle.hub_picture.proofs.Reading.{then}
use Rattle.hub_picture.proofs.svg.legend.put_sign.Goals as goal

pub returns : goal.returns
returns c n ns =
    then (c.in_ok-put_opening.ensures n ns) (then (c.in_ok-put_elements.ensures _ _) (then (c.in_ok-put.ensures _)
    (then (c.in_ok-put_elements-2.ensures _ _) (c.put-2.ensures _))))
