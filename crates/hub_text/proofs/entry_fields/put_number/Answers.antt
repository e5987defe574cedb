use Rattle.std.proofs.Common.{arith}
use Rattle.hub_text.proofs.Puts.{puts_then, puts_within}
use Rattle.hub_text.proofs.entry_fields.put_number.Goals as goal

pub returns : goal.returns
returns c = puts_within (omega (arith, c.requires.few)) (puts_then c.put-end.ensures c.put_large.ensures)
