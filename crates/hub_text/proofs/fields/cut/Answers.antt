use Rattle.std.proofs.Common.{sym, arith}
use Rattle.std.proofs.lemmas.Grind.{common_steps}
use Rattle.hub_text.proofs.Pieces.{joins-nil}
use Rattle.hub_text.proofs.fields.cut.Goals as goal

pub loop-i-init : goal.loop-i-init
loop-i-init c = sym (joins-nil c.args.mark c.args.bytes.now)

pub returns-then-b-mark : goal.returns-then-b-mark
returns-then-b-mark c = grind (arith, common_steps)

pub loop-i-preserved : goal.loop-i-preserved
loop-i-preserved c = grind (arith, common_steps)

pub returns : goal.returns
returns c = grind (arith, common_steps)
