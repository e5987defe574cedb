use Rattle.std.proofs.Common.{sym, ◌∙◌, ap, Some}
use Rattle.hub_base.specs.declared.head.Head.{Head}
use Rattle.hub_replay.proofs.FirstLines.{head-read, second-faulty}
use Rattle.hub_replay.proofs.lines.read_second.Goals as goal

pub returns-in-Ok-clause-ok : goal.returns-in-Ok-clause-ok
returns-in-Ok-clause-ok c = λ edition line body second.
    head-read _ line body edition second c.head.result
    (c.in-Ok.ensures.edition ∙ ap (λ (h : Head). Some h.edition) (sym c.head.ensures.value))
    (c.in-Ok.ensures.procs ∙ ap (λ (h : Head). Some h.procs) (sym c.head.ensures.value))

pub returns-in-Err-clause-err : goal.returns-in-Err-clause-err
returns-in-Err-clause-err c = λ edition line body second.
    second-faulty _ line body edition second c.in-Err.fault.line c.in-Err.fault.kind c.in-Err.ensures.fault
