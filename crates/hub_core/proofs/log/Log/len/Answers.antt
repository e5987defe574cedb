use Rattle.std.proofs.Common.{ap, length, arith}
use Rattle.hub_core.specs.LogView.{LogView}
use Rattle.hub_core.proofs.Logs.{all_length}
use Rattle.hub_core.proofs.log.Log.len.Goals as goal

pub returns : goal.returns
returns c =
    omega (
      arith,
      all_length c.self.inside.whole.items c.self.inside.briefs.items c.self.inside.cases.items,
      ap (λ (v : LogView). length v.items) c.self.view_is,
      ap (λ (v : LogView). v.capacity) c.self.view_is,
      c.self.invariant.room,
      c.len.ensures,
      c.len-2.ensures,
      c.self.inside.whole.ok,
      c.self.inside.briefs.ok,
    )
