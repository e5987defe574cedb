-- the search that a check tries first fails at these, at some length
use Rattle.std.proofs.Common.{arith}
use Rattle.std.proofs.lemmas.Grind.{common_steps}
use Rattle.hub_text.proofs.event_text.grow.Goals as goal

pub returns-in-Ok : goal.returns-in-Ok
returns-in-Ok c = grind (arith, common_steps)

pub returns-in-Err : goal.returns-in-Err
returns-in-Err c = grind (arith, common_steps)

pub returns-in_default : goal.returns-in_default
returns-in_default c = grind (arith, common_steps)
