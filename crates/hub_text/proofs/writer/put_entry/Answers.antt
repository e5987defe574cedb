use Rattle.std.proofs.Common.{subst, sym}
use Rattle.hub_base.specs.Entry.{Step}
use Rattle.hub_base.specs.Lines.{line}
use Rattle.hub_text.specs.Writing.{Appends}
use Rattle.hub_text.proofs.writer.put_entry.Goals as goal

pub returns-in-Some : goal.returns-in-Some
returns-in-Some c =
    subst (λ (s : Step). Appends c.args.out.now c.put_plain_line.new.out (line (record { pid = c.args.entry.now.pid; step = s })) c.put_plain_line.result)
    (sym c.in-Some.ensures) c.put_plain_line.ensures
