use Rattle.hub_picture.proofs.Reading.{then-plain}
use Rattle.hub_picture.proofs.piece.put_numbered.Goals as goal

pub returns : goal.returns
returns c = then-plain c.in_ok-put_plain.ensures c.put_number.ensures
