use Rattle.std.proofs.Common.{codes, decimal}
use Rattle.std.proofs.lemmas.Result.{on_ok_weaker}
use Rattle.hub_story_text.proofs.Chains.{two}
use Rattle.hub_story_text.proofs.lines.put_sent.Goals as goal

pub returns-in-None : goal.returns-in-None
returns-in-None c =
    rw c.in-None.is (on_ok_weaker c.put_number.result
    (λ is. two c.args.out.now.items c.put_number.new.out.items (codes "stays in port ") (decimal c.args.port.0) is)
    (rw c.into.ensures at c.put_number.ensures))
