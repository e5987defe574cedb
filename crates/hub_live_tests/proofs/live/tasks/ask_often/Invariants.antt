use Rattle.std.proofs.Common.{◌≡◌}
use Rattle.hub_live_tests.proofs.live.tasks.ask_often.Given as goal

abbrev pub invariant-loop : goal.invariant-loop
invariant-loop g l = l.seat.pid ≡ l.initial.seat.pid
