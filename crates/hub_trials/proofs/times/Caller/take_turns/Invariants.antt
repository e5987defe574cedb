use Rattle.std.proofs.Common.{◌≡◌}
use Rattle.hub_trials.proofs.times.Caller.take_turns.Given as goal

abbrev pub invariant-loop-turn : goal.invariant-loop-turn
invariant-loop-turn g l = l.seat.pid ≡ l.initial.seat.pid
