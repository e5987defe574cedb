use Rattle.std.proofs.Common.{◌∙◌}
use Rattle.hub_parts.proofs.Counts.{counts_tell}
use Rattle.hub_parts.proofs.tickets.Tickets.waits.Goals as goal

pub returns : goal.returns
returns c = rw (← c.self.view_is) (c.has.ensures ∙ counts_tell c.args.side c.args.port c.self.inside.counts _ c.self.invariant.counted c.requires)
