use Rattle.hub_picture.proofs.Reading.{then}
use Rattle.hub_picture.proofs.piece.put_word.Goals as goal

pub returns-in-Some : goal.returns-in-Some
returns-in-Some c at takes = then (c.in_ok-put.ensures at) (c.put_number.ensures.at _ takes)

pub returns-in-None : goal.returns-in-None
returns-in-None c at takes = record { ok = (c.in_ok-put.ensures at).ok }
