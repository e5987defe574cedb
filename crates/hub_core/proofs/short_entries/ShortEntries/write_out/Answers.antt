use Rattle.std.proofs.Common.{ap, arith, length}
use Rattle.hub_core.proofs.Logs.{written_length}
use Rattle.hub_core.proofs.short_entries.ShortEntries.write_out.Goals as goal

pub write_out-requires-clause-room : goal.write_out-requires-clause-room
write_out-requires-clause-room c =
    omega (
      arith,
      c.in_ok-entries.ensures.len,
      c.in_ok-entries.ensures.exact,
      c.len.ensures,
      ap length c.deref.ensures.value,
      ap length c.self.view_is,
      written_length c.self.inside.briefs.items c.self.inside.cases.items,
    )
