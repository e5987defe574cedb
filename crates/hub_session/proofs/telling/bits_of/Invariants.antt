use Rattle.std.proofs.Common.{◌≡◌, drop}
use Rattle.hub_session.specs.Tells.{bits_of, bits_with}
use Rattle.hub_session.proofs.telling.bits_of.Given as goal

abbrev pub invariant-loop-pid : goal.invariant-loop-pid
invariant-loop-pid l = bits_with l.bits (drop l.pid-index l.pids) ≡ bits_of l.pids
