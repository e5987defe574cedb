use Rattle.std.proofs.Common.{arith}
use Rattle.hub_live.proofs.Seats.{enters, draws_as}
use Rattle.hub_live.proofs.words.draw.Goals as goal

pub load_new_seat-found-requires : goal.load_new_seat-found-requires
load_new_seat-found-requires c = let words = c.requires.words in (omega arith, enters _ _ _)

pub compare_exchange-requires : goal.compare_exchange-requires
compare_exchange-requires c =
    let words = c.requires.words in
    let l = c.load_new_seat-found.ensures in
    (l.0, omega arith, draws_as _ _ _ _ _ l.2)
