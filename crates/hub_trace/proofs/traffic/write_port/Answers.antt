use Rattle.std.proofs.Common.{◌∙◌, refl}
use Rattle.hub_base.proofs.Results.{on-err}
use Rattle.hub_trace.specs.Formats.Format.{Trace}
use Rattle.hub_trace.proofs.Written.{begun-here, begun-more, holds-lines, holds-more}
use Rattle.hub_trace.proofs.traffic.write_port.Goals as goal

pub loop-moved-init : goal.loop-moved-init
loop-moved-init g c = record { written = λ start so. so; same = refl }

pub loop-moved-preserved : goal.loop-moved-preserved
loop-moved-preserved g c = record {
  written = λ start so. holds-more Trace start _ _ _ _ c.in_ok-write_many.ensures.whole
      (holds-lines Trace start _ _ _ c.in_ok-put.ensures (c.loop-moved.invariant.written start so));
  same = c.in_ok-write_many.ensures.ok ∙ c.loop-moved.invariant.same;
}

pub returns-in_err-put-clause-begun : goal.returns-in_err-put-clause-begun
returns-in_err-put-clause-begun g c =
    on-err c.from_residual.result (λ start so. begun-here Trace start _ _ (c.loop-moved.invariant.written start so))

pub returns-in_err-write_many-clause-begun : goal.returns-in_err-write_many-clause-begun
returns-in_err-write_many-clause-begun g c =
    on-err c.from_residual-in_err-write_many.result
    (λ start so. begun-more Trace start _ _ _ c.in_err-write_many.ensures.beginning
    (holds-lines Trace start _ _ _ c.in_ok-put.ensures (c.loop-moved.invariant.written start so)))

pub returns-in_err-put_level-clause-begun : goal.returns-in_err-put_level-clause-begun
returns-in_err-put_level-clause-begun g c =
    on-err c.from_residual-in_err-put_level.result (λ start so. begun-here Trace start _ _ (c.loop-moved.invariant.written start so))

pub returns-clause-goes : goal.returns-clause-goes
returns-clause-goes g c start so = holds-lines Trace start _ _ _ c.in_ok-put_level.ensures (c.loop-moved.invariant.written start so)
