use Rattle.std.proofs.Common.{◌∙◌, ap}
use Rattle.hub_base.specs.Reading.{Faulty}
use Rattle.hub_replay.proofs.FirstLines.{first-read, first-faulty, first-said}
use Rattle.hub_replay.proofs.lines.read_first.Goals as goal

pub returns-in-Ok-clause-ok : goal.returns-in-Ok-clause-ok
returns-in-Ok-clause-ok c = λ body line. first-read _ body line c.in-Ok.field-0.head.edition c.in-Ok.ensures.edition

pub returns-then-fault-eq1-clause-err : goal.returns-then-fault-eq1-clause-err
returns-then-fault-eq1-clause-err c =
    λ body line. first-faulty _ body line c.in-Err.fault.kind (c.in-Err.ensures.fault ∙ ap (λ k. Faulty k c.in-Err.fault.kind) c.if-fault-eq1.true)

pub returns-else-fault-eq1-clause-ok : goal.returns-else-fault-eq1-clause-ok
returns-else-fault-eq1-clause-ok c =
    λ body line. first-said _ body line c.in-Err.fault.line c.in-Err.fault.kind c.in-Err.ensures.fault c.if-fault-eq1.false
