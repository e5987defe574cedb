use Rattle.std.proofs.Common.{◌≡◌}
use Rattle.hub_live_tests.proofs.live.one_thread.follow_plainly.Given as goal

abbrev pub invariant-loop-place : goal.invariant-loop-place
invariant-loop-place g l = l.seat.hub ≡ l.initial.seat.hub
