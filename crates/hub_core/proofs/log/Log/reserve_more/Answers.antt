use Rattle.std.proofs.Common.{arith}
use Rattle.std.proofs.lemmas.Result.{on_ok_weaker}
use Rattle.hub_core.proofs.Logs.{all_length}
use Rattle.hub_core.proofs.log.Log.reserve_more.Goals as goal

pub returns-then-capacity-len-clause-ok : goal.returns-then-capacity-len-clause-ok
returns-then-capacity-len-clause-ok c =
    on_ok_weaker c.reserve.result
    (λ room. omega (
      arith,
      room,
      all_length c.reserve.new.self.items c.self.inside.briefs.items c.self.inside.cases.items,
      c.reserve.new.self.ok,
      c.reserve.ensures.len,
      c.saturating_add.ensures,
      c.len-then-capacity-len.ensures,
      c.self.inside.briefs.ok,
    )) c.reserve.ensures.ok
