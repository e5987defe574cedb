use Rattle.std.proofs.Common.{ap, arith, length}
use Rattle.hub_core.proofs.Logs.{written_length}
use Rattle.hub_core.proofs.short_entries.ShortEntries.len.Goals as goal

pub returns : goal.returns
returns c =
    omega (arith, c.len.ensures, c.self.inside.briefs.ok, ap length c.self.view_is, written_length c.self.inside.briefs.items c.self.inside.cases.items)
