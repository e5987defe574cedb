-- the search that a check tries first fails at these, at some length
use Rattle.std.proofs.Common.{arith}
use Rattle.std.proofs.lemmas.Grind.{common_steps}
use Rattle.hub_text.proofs.event_text.make_room.Goals as goal

pub returns : goal.returns
returns c = grind (arith, common_steps)
