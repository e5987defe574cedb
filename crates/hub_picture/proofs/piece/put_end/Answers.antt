use Rattle.hub_picture.proofs.Reading.{then-plain}
use Rattle.hub_picture.proofs.piece.put_end.Goals as goal

pub returns-in_ok-put_told-in-Some : goal.returns-in_ok-put_told-in-Some
returns-in_ok-put_told-in-Some c = then-plain c.in_ok-put_told-in-Some.ensures c.put_numbered.ensures
