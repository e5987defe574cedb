use Rattle.std.proofs.Common.{rules}
use Rattle.hub_base.proofs.Values.{number_again}
use Rattle.hub_base.proofs.value.Value.as_num.Goals as goal

pub returns-clause-is : goal.returns-clause-is
returns-clause-is c = number_again c.args.self c.from_le_bytes.result (search rules)
