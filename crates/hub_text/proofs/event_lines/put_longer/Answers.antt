use Rattle.std.proofs.Common.{arith}
use Rattle.hub_text.proofs.Puts.{puts_four}
use Rattle.hub_text.proofs.event_lines.put_longer.Goals as goal

pub returns-then-n-lt100000000 : goal.returns-then-n-lt100000000
returns-then-n-lt100000000 c =
    puts_four _ _ _ _ _ _ c.args.n 4 20 (omega arith) (omega arith) (omega arith) c.put_short-end.ensures c.put_four.ensures
