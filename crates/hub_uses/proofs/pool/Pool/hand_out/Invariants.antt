use Rattle.std.proofs.Common.{◌≡◌}
use Rattle.hub_uses.proofs.pool.Pool.hand_out.Given as goal

abbrev pub invariant-loop-job : goal.invariant-loop-job
invariant-loop-job g l = l.seat.pid ≡ l.initial.seat.pid
