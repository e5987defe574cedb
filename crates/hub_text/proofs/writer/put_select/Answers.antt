use Rattle.std.proofs.Common.{arith}
use Rattle.std.proofs.lemmas.Grind.{common_steps}
use Rattle.hub_text.proofs.Spelled.{spaced-select}
use Rattle.hub_base.specs.Lines.{default_field}
use Rattle.hub_text.proofs.writer.put_select.Goals as goal

pub returns-in_ok-put : goal.returns-in_ok-put
returns-in_ok-put c = grind (arith, common_steps, spaced-select c.args.cases.now (default_field c.args.default))

pub returns-else-default : goal.returns-else-default
returns-else-default c = grind (arith, common_steps, spaced-select c.args.cases.now (default_field c.args.default))

pub returns-in_err-put_cases : goal.returns-in_err-put_cases
returns-in_err-put_cases c = grind (arith, common_steps, spaced-select c.args.cases.now (default_field c.args.default))

pub returns-in_err-put : goal.returns-in_err-put
returns-in_err-put c = grind (arith, common_steps, spaced-select c.args.cases.now (default_field c.args.default))
