use Rattle.std.proofs.Common.{◌∙◌, sym, arith}
use Rattle.hub_parts.proofs.Opened.{open_calls_of}
use Rattle.hub_parts.proofs.tickets.Tickets.is_open.Goals as goal

pub returns : goal.returns
returns c = rw (← c.self.view_is)
    (c.self.invariant.marked.told c.args.pid.0 (omega arith) ∙ sym (open_calls_of c.self.inside.calls.items c.self.inside.opened.items c.args.pid))
