use Rattle.hub_picture.proofs.Reading.{then-plain}
use Rattle.hub_picture.proofs.piece.put_words.Goals as goal

pub returns : goal.returns
returns c = then-plain c.in_ok-put_number.ensures c.put_plain.ensures
