use Rattle.std.proofs.Common.{subst}
use Rattle.hub_text.specs.Writing.{Appends}
use Rattle.hub_text.proofs.writer.put_plain_line.Goals as goal

pub returns : goal.returns
returns c = subst (λ text. Appends c.args.out.now c.put.new.out text c.put.result) c.put_plain-end.ensures.put c.put.ensures.appends
