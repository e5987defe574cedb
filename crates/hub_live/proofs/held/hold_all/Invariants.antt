use Rattle.std.proofs.Common.{◌≡◌, ◌++◌}
use Rattle.hub_live.proofs.held.hold_all.Given as goal

abbrev pub invariant-loop-seat : goal.invariant-loop-seat
invariant-loop-seat g l = (l.held.items ≡ l.yielded) × (l.yielded ++ l.seat-iterator.rest.items ≡ l.fn.seats.items)
