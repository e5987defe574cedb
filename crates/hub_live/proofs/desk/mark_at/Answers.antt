use Rattle.std.proofs.Common.{sym, ◌∙◌}
use Rattle.hub_live.proofs.Marks.{look-mark}
use Rattle.hub_live.proofs.desk.mark_at.Goals as goal

pub mark_of-requires-clause-sent : goal.mark_of-requires-clause-sent
mark_of-requires-clause-sent c = (look-mark _ _ c.args.port c.in-Some.look c.requires.legal c.requires.few (sym c.look.ensures ∙ c.in-Some.is)).0

pub mark_of-requires-clause-received : goal.mark_of-requires-clause-received
mark_of-requires-clause-received c = (look-mark _ _ c.args.port c.in-Some.look c.requires.legal c.requires.few (sym c.look.ensures ∙ c.in-Some.is)).1
