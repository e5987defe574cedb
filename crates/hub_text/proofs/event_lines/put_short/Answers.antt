use Rattle.std.proofs.Common.{arith}
use Rattle.hub_text.proofs.Puts.{puts_pair}
use Rattle.hub_text.proofs.event_lines.put_short.Goals as goal

pub returns-else-n-lt100 : goal.returns-else-n-lt100
returns-else-n-lt100 c =
    puts_pair _ _ _ _ _ _ c.args.n 2 4 (omega arith) (omega arith) (omega arith) c.put_first-end.ensures c.put_pair.ensures
