use Rattle.std.proofs.Common.{◌≡◌, vec_len}
use Rattle.hub_live.proofs.blank.wakers_of.Given as goal

abbrev pub invariant-loop-pid : goal.invariant-loop-pid
invariant-loop-pid l = vec_len l.wakers ≡ l._pid
