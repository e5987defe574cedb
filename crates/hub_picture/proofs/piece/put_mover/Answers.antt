use Rattle.hub_picture.proofs.Reading.{then-plain}
use Rattle.hub_picture.proofs.piece.put_mover.Goals as goal

pub returns-in_ok-put_numbered-in-Some : goal.returns-in_ok-put_numbered-in-Some
returns-in_ok-put_numbered-in-Some c = then-plain c.in_ok-put_numbered-in-Some.ensures c.put_numbered-in-Some.ensures
