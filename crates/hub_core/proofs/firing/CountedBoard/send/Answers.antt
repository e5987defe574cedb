use Rattle.std.proofs.Common.{arith}
use Rattle.std.proofs.lemmas.Grind.{common_steps}
use Rattle.hub_core.proofs.Hearing.{heard_as, heard_on}
use Rattle.hub_core.proofs.firing.CountedBoard.send.Goals as goal

pub returns-in-Some-clause-told : goal.returns-in-Some-clause-told
returns-in-Some-clause-told g c =
    heard_as (heard_on g.met.E.Hears.goes_on c.tell-in-Some.ensures c.tell-in-Some-2.ensures) (grind (arith, common_steps))
