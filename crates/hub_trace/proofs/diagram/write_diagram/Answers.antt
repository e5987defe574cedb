use Rattle.hub_base.proofs.Results.{on-err}
use Rattle.hub_trace.specs.Formats.Format.{Diagram}
use Rattle.hub_trace.specs.Diagrams.{IsDiagram}
use Rattle.hub_trace.proofs.Written.{begun, begun-whole, holds-first, holds-lines, whole}
use Rattle.hub_trace.proofs.diagram.write_diagram.Goals as goal

pub returns-in_err-write_steps-clause-beginning : goal.returns-in_err-write_steps-clause-beginning
returns-in_err-write_steps-clause-beginning g c =
    on-err c.from_residual-in_err-write_steps.result
    (c.in_err-write_steps.ensures.begun _ (holds-lines Diagram _ _ _ _ c.in_ok-put_ports.ensures (holds-first Diagram _ _ c.in_ok-text.ensures)))

pub returns-in_err-write_whole-clause-beginning : goal.returns-in_err-write_whole-clause-beginning
returns-in_err-write_whole-clause-beginning g c =
    on-err c.from_residual-in_err-write_whole.result
    (begun-whole Diagram _ IsDiagram _ _ _ _ _
    (c.in_ok-write_steps.ensures.goes _ (holds-lines Diagram _ _ _ _ c.in_ok-put_ports.ensures (holds-first Diagram _ _ c.in_ok-text.ensures)))
    (λ before h. h) c.deref.ensures.value (begun Diagram) c.in_err-write_whole.ensures.beginning)

pub returns-clause-whole : goal.returns-clause-whole
returns-clause-whole g c =
    whole Diagram _ IsDiagram _ _ _ _ _
    (c.in_ok-write_steps.ensures.goes _ (holds-lines Diagram _ _ _ _ c.in_ok-put_ports.ensures (holds-first Diagram _ _ c.in_ok-text.ensures)))
    (λ before h. h) c.deref.ensures.value c.in_ok-write_whole.ensures.whole
