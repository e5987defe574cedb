use Rattle.std.proofs.Common.{◌∙◌, refl}
use Rattle.hub_base.proofs.Results.{on-err}
use Rattle.hub_trace.proofs.Written.{begun-here, begun-more, holds-lines, holds-more}
use Rattle.hub_trace.proofs.writing.write_steps.Goals as goal

pub loop-place-init : goal.loop-place-init
loop-place-init g c = record { at = c.in_ok-walk.ensures.at; written = λ start so. so; same = refl }

pub loop-place-preserved : goal.loop-place-preserved
loop-place-preserved g c =
    let f = g.P.Pen.format in
    record {
      at = c.in_ok-step.ensures.at;
      written = λ start so. holds-more f start _ _ _ _ c.in_ok-write_many.ensures.whole
          (holds-lines f start _ _ _ c.in_ok-put_step.ensures (c.loop-place.invariant.written start so));
      same = c.in_ok-write_many.ensures.ok ∙ c.loop-place.invariant.same;
    }

pub returns-in_err-walk-clause-begun : goal.returns-in_err-walk-clause-begun
returns-in_err-walk-clause-begun g c = on-err c.from_residual.result (λ start so. begun-here g.P.Pen.format start _ _ so)

pub returns-in_err-step-clause-begun : goal.returns-in_err-step-clause-begun
returns-in_err-step-clause-begun g c =
    on-err c.from_residual-in_err-step.result (λ start so. begun-here g.P.Pen.format start _ _ (c.loop-place.invariant.written start so))

pub returns-in_err-put_step-clause-begun : goal.returns-in_err-put_step-clause-begun
returns-in_err-put_step-clause-begun g c =
    on-err c.from_residual-in_err-put_step.result (λ start so. begun-here g.P.Pen.format start _ _ (c.loop-place.invariant.written start so))

pub returns-in_err-write_many-clause-begun : goal.returns-in_err-write_many-clause-begun
returns-in_err-write_many-clause-begun g c =
    let f = g.P.Pen.format in
    on-err c.from_residual-in_err-write_many.result
    (λ start so. begun-more f start _ _ _ c.in_err-write_many.ensures.beginning
    (holds-lines f start _ _ _ c.in_ok-put_step.ensures (c.loop-place.invariant.written start so)))
