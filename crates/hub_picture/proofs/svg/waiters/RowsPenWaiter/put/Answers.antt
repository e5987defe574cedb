use Rattle.hub_picture.proofs.Reading.{then}
use Rattle.hub_picture.proofs.svg.waiters.RowsPenWaiter.put.Goals as goal

pub returns : goal.returns
returns c n ns =
    then (c.in_ok-put.ensures _) (then (c.in_ok-put_words.ensures _ _)
    (then (c.in_ok-put_whom_words.ensures _ _) (c.put-2.ensures _)))
