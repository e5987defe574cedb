use Rattle.hub_picture.proofs.Reading.{then}
use Rattle.hub_picture.proofs.svg.page.put_top.Goals as goal

pub returns : goal.returns
returns c =
    then c.in_ok-put_opening.ensures (then (c.in_ok-put_style.ensures _ _) (then c.in_ok-put_paper.ensures
    (then (c.in_ok-put_marks.ensures _ _) (then (c.in_ok-put.ensures _) (c.put_legend.ensures _ _)))))
