use Rattle.hub_base.proofs.Results.{on-err}
use Rattle.hub_trace.specs.Formats.Format.{Trace}
use Rattle.hub_trace.specs.Json.{IsJson}
use Rattle.hub_trace.proofs.Written.{begun-here, begun-whole, holds-first, holds-lines, whole, whole-begun}
use Rattle.hub_trace.proofs.trace.write_trace.Goals as goal

pub returns-in_err-write_steps-clause-beginning : goal.returns-in_err-write_steps-clause-beginning
returns-in_err-write_steps-clause-beginning g c =
    on-err c.from_residual-in_err-write_steps.result (c.in_err-write_steps.ensures.begun _ (holds-first Trace _ _ c.in_ok-text.ensures))

pub returns-in_err-put_waiting-clause-beginning : goal.returns-in_err-put_waiting-clause-beginning
returns-in_err-put_waiting-clause-beginning g c =
    on-err c.from_residual-in_err-put_waiting.result
    (begun-here Trace _ _ _ (c.in_ok-write_steps.ensures.goes _ (holds-first Trace _ _ c.in_ok-text.ensures)))

pub returns-in_err-write-clause-beginning : goal.returns-in_err-write-clause-beginning
returns-in_err-write-clause-beginning g c =
    on-err c.from_residual-in_err-write.result
    (c.in_err-write.ensures.begun _ (holds-lines Trace _ _ _ _ c.in_ok-put_waiting.ensures
    (c.in_ok-write_steps.ensures.goes _ (holds-first Trace _ _ c.in_ok-text.ensures))))

pub returns-in_err-put_end-clause-beginning : goal.returns-in_err-put_end-clause-beginning
returns-in_err-put_end-clause-beginning g c =
    on-err c.from_residual-in_err-put_end.result
    (begun-here Trace _ _ _ (c.in_ok-write.ensures.goes _ (holds-lines Trace _ _ _ _ c.in_ok-put_waiting.ensures
    (c.in_ok-write_steps.ensures.goes _ (holds-first Trace _ _ c.in_ok-text.ensures)))))

pub returns-in_err-write_whole-clause-beginning : goal.returns-in_err-write_whole-clause-beginning
returns-in_err-write_whole-clause-beginning g c =
    on-err c.from_residual-in_err-write_whole.result
    (begun-whole Trace _ IsJson _ _ _ _ _
    (c.in_ok-write.ensures.goes _ (holds-lines Trace _ _ _ _ c.in_ok-put_waiting.ensures
    (c.in_ok-write_steps.ensures.goes _ (holds-first Trace _ _ c.in_ok-text.ensures))))
    c.in_ok-put_end.ensures c.deref.ensures.value whole-begun c.in_err-write_whole.ensures.beginning)

pub returns-clause-whole : goal.returns-clause-whole
returns-clause-whole g c =
    whole Trace _ IsJson _ _ _ _ _
    (c.in_ok-write.ensures.goes _ (holds-lines Trace _ _ _ _ c.in_ok-put_waiting.ensures
    (c.in_ok-write_steps.ensures.goes _ (holds-first Trace _ _ c.in_ok-text.ensures))))
    c.in_ok-put_end.ensures c.deref.ensures.value c.in_ok-write_whole.ensures.whole
