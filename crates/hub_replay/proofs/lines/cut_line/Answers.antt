use Rattle.std.proofs.Common.{arith}
use Rattle.std.proofs.lemmas.Grind.{common_steps}
use Rattle.hub_replay.proofs.Hearing.{line-cut, none-at-all}
use Rattle.hub_replay.proofs.lines.cut_line.Goals as goal

pub returns-in-None : goal.returns-in-None
returns-in-None c = none-at-all c.args.bytes.now c.in-None.ensures

pub returns-in-Some : goal.returns-in-Some
returns-in-Some c = line-cut c.args.bytes.now _ _ c.in-Some.end c.in-Some.ensures (grind (arith, common_steps)) (grind (arith, common_steps))
