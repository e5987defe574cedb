use Rattle.std.proofs.Common.{◌∙◌, sym}
use Rattle.hub_parts.proofs.Queues.{passed_all, passed_to}
use Rattle.hub_parts.proofs.wait_queue.pass_dead.Goals as goal

pub returns-then-lives : goal.returns-then-lives
returns-then-lives c =
    passed_to c.args.tickets.now.waiting c.loop-waiter.entries c.args.entries.now c.in-Some.waiter c.loop-waiter.invariant.0 c.loop-waiter.invariant.1
    (sym c.front.ensures ∙ sym c.in-Some.ensures) (sym c.if-lives.ensures)

pub returns : goal.returns
returns c =
    passed_all c.args.tickets.now.waiting c.loop-waiter.entries c.args.entries.now c.loop-waiter.invariant.0 c.loop-waiter.invariant.1
    (sym c.front.ensures ∙ sym c.in_default.ensures)
