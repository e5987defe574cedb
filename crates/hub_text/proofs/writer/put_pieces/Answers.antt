use Rattle.std.proofs.Common.{arith}
use Rattle.std.proofs.lemmas.Grind.{common_steps}
use Rattle.std.specs.Fmt.{decimal}
use Rattle.hub_text.proofs.Spelled.{join-spaced}
use Rattle.hub_base.specs.Lines.{step_fields}
use Rattle.hub_text.proofs.writer.put_pieces.Goals as goal

pub returns-in_err-put_step : goal.returns-in_err-put_step
returns-in_err-put_step c = grind (arith, common_steps, join-spaced (decimal c.args.entry.now.pid.0) (step_fields c.args.entry.now.step))

pub returns : goal.returns
returns c = grind (arith, common_steps, join-spaced (decimal c.args.entry.now.pid.0) (step_fields c.args.entry.now.step))
