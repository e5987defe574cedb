use Rattle.hub_live.proofs.Finishing.{Compared}
use Rattle.hub_live.proofs.desk.Desk.compare_all.Given as goal

abbrev pub invariant-loop-seat : goal.invariant-loop-seat
invariant-loop-seat g l = Compared l.initial.self l.self l.yielded l.seat-iterator.rest.items l.fn.seats.items
