use Rattle.std.proofs.Common.{◌≡◌, length}
use Rattle.hub_parts.proofs.tickets.no_calls.Given as goal

abbrev pub invariant-loop-pid : goal.invariant-loop-pid
invariant-loop-pid l = length l.calls.items ≡ l._pid
