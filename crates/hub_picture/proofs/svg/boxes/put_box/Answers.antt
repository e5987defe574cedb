use Rattle.hub_picture.proofs.Reading.{then}
use Rattle.hub_picture.proofs.svg.boxes.put_box.Goals as goal

pub returns : goal.returns
returns c n ns =
    then (c.in_ok-put_rect.ensures n ns) (then (c.in_ok-put_mark.ensures _ _)
    (then (c.in_ok-put_label.ensures _ _) (c.put_box_offers.ensures _ _)))
