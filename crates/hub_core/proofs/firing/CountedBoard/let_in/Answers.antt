use Rattle.std.proofs.Common.{arith}
use Rattle.std.proofs.lemmas.Grind.{common_steps}
use Rattle.hub_core.proofs.Boards.{pushed-popped}
use Rattle.hub_core.proofs.Hearing.{heard_as, heard_on}
use Rattle.hub_core.proofs.firing.CountedBoard.let_in.Goals as goal

pub returns-in-Some-clause-fires : goal.returns-in-Some-clause-fires
returns-in-Some-clause-fires g c =
    let board = pushed-popped c.args.self.now.board c.pop.new.self c.push.new.self c.args.port c.in-Send.sent c.requires.may.made
    c.pop.ensures.left c.push.ensures in
    grind (arith, common_steps)

pub returns-in-Some-clause-told : goal.returns-in-Some-clause-told
returns-in-Some-clause-told g c =
    heard_as (heard_on g.met.E.Hears.goes_on c.tell.ensures c.tell-in-Some.ensures) (grind (arith, common_steps))

pub returns-in-None-clause-told : goal.returns-in-None-clause-told
returns-in-None-clause-told g c =
    heard_as (heard_on g.met.E.Hears.goes_on c.tell-in-None.ensures c.tell-in-None-2.ensures) (grind (arith, common_steps))
