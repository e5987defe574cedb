use Rattle.std.proofs.Common.{◌∙◌, refl}
use Rattle.hub_base.proofs.Results.{on-err}
use Rattle.hub_trace.proofs.traffic.Traffic.write.Goals as goal

pub loop-port-init : goal.loop-port-init
loop-port-init g c = record { written = λ start so. so; same = refl }

pub loop-port-preserved : goal.loop-port-preserved
loop-port-preserved g c = record {
  written = λ start so. c.in_ok-write_port.ensures.goes start (c.loop-port.invariant.written start so);
  same = c.in_ok-write_port.ensures.ok ∙ c.loop-port.invariant.same;
}

pub returns-in_err-write_port-clause-begun : goal.returns-in_err-write_port-clause-begun
returns-in_err-write_port-clause-begun g c =
    on-err c.from_residual.result (λ start so. c.in_err-write_port.ensures.begun start (c.loop-port.invariant.written start so))
