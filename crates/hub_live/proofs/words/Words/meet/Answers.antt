use Rattle.std.proofs.Common.{sym, subst}
use Rattle.std.specs.Prelude.{IsSome}
use Rattle.hub_live.proofs.Laters.{met}
use Rattle.hub_live.proofs.words.Words.meet.Goals as goal

pub split-requires-clause-joined : goal.split-requires-clause-joined
split-requires-clause-joined g c = subst IsSome (sym c.join.ensures.sees.sees.joined) c.requires.other.number

pub returns-clause-met : goal.returns-clause-met
returns-clause-met g c = met c.requires.token c.requires.other c.join.ensures.sees c.split.ensures.left c.split.ensures.back
