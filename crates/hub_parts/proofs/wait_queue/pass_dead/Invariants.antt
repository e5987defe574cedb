use Rattle.std.proofs.Common.{◌≡◌, length}
use Rattle.hub_parts.specs.Queues.{lives, from_first}
use Rattle.hub_parts.proofs.wait_queue.pass_dead.Given as goal

abbrev pub invariant-loop-waiter : goal.invariant-loop-waiter
invariant-loop-waiter l =
    (from_first (lives l.tickets.waiting) l.entries.items ≡ from_first (lives l.tickets.waiting) l.fn.entries.items)
    × (l.entries.capacity ≡ l.fn.entries.capacity)

abbrev pub decreases-loop-waiter : goal.decreases-loop-waiter
decreases-loop-waiter l = length l.entries.items
