use Rattle.std.proofs.Common.{arith}
use Rattle.hub_text.proofs.Puts.{puts_then, puts_within}
use Rattle.hub_text.proofs.entry_fields.put_send.Goals as goal

pub returns : goal.returns
returns c =
    rw (← c.into.ensures) (puts_within (omega arith) (puts_then c.put_number-number.ensures (puts_then c.put-end.ensures c.put_value.ensures)))
