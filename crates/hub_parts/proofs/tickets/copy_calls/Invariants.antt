-- The calls so far are copied.
use Rattle.std.proofs.Common.{◌≡◌, take}
use Rattle.hub_parts.proofs.tickets.copy_calls.Given as goal

abbrev pub invariant-loop-last : goal.invariant-loop-last
invariant-loop-last l = l.copy.items ≡ take l.last-index l.calls
