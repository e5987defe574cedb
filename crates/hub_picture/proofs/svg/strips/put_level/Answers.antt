use Rattle.hub_picture.proofs.Reading.{then}
use Rattle.hub_picture.proofs.svg.strips.put_level.Goals as goal

pub returns : goal.returns
returns c n ns =
    then (c.in_ok-put_level_opening.ensures n ns) (then (c.in_ok-put_rect.ensures _ _)
    (then (c.in_ok-put_stay_in.ensures _ _) (c.put.ensures _)))
