use Rattle.std.proofs.Common.{subst, sym}
use Rattle.hub_text.specs.Quick.{Begins}
use Rattle.hub_base.specs.Entry.{Entry}
use Rattle.hub_text.proofs.QuickLines.{begins-line}
use Rattle.hub_text.specs.Place.{step_in}
use Rattle.hub_text.proofs.quick.quick_line.Goals as goal

pub returns : goal.returns
returns c =
    let e : Entry = record { pid = c.in_ok-pid.pid; step = step_in c.step_into.new.step } in
    subst (λ end. Begins c.args.edition c.args.bytes.now e end) (sym c.in_ok-end-2.ensures.end)
    (begins-line c.args.edition c.args.bytes.now e c.in_ok-pid.end c.in_ok-end.end c.in_ok-pid.ensures.spelled c.in_ok-pid.ensures.fits
    c.in_ok-end.ensures c.in_ok-end-2.ensures.newline)
