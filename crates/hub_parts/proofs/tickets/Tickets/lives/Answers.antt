use Rattle.std.proofs.Common.{List, ◌∙◌, ap, sym, ◌==◌}
use Rattle.hub_parts.specs.Tickets.{last_of}
use Rattle.hub_parts.specs.declared.tickets.LastCall.{LastCall}
use Rattle.hub_parts.proofs.Opened.{lives_at, open_calls_of}
use Rattle.hub_parts.proofs.tickets.Tickets.lives.Goals as goal

pub returns-then-is_open : goal.returns-then-is_open
returns-then-is_open c =
    let any =
    sym (open_calls_of c.self.inside.calls.items c.self.inside.opened.items c.args.waiter.pid) ∙ sym (rw (← c.self.view_is) at c.if-is_open.ensures) in
    rw (← c.self.view_is, lives_at c.self.inside.calls.items c.self.inside.opened.items c.args.waiter.ticket c.args.waiter.pid, any)
    (ap (λ n. n == c.args.waiter.ticket)
    (c.ticket_of.ensures ∙ ap (λ (calls : List LastCall). (last_of calls c.args.waiter.pid.0).ticket) c.as_slice.ensures.value))

pub returns-else-is_open : goal.returns-else-is_open
returns-else-is_open c =
    let none =
    sym (open_calls_of c.self.inside.calls.items c.self.inside.opened.items c.args.waiter.pid) ∙ sym (rw (← c.self.view_is) at c.if-is_open.ensures) in
    rw (← c.self.view_is, lives_at c.self.inside.calls.items c.self.inside.opened.items c.args.waiter.ticket c.args.waiter.pid, none)
    (c.is_open.ensures ∙ sym c.if-is_open.ensures)
