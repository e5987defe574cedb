use Rattle.std.proofs.Common.{◌∙◌, sym, refl, arith}
use Rattle.hub_base.specs.Runs.{state}
use Rattle.hub_laws.proofs.Lasting.{ports-law}
use Rattle.hub_runner.proofs.ReportPorts.{all-ports, last-port, next-port}
use Rattle.hub_runner.proofs.replayed.Replayed.ports.Goals as goal

pub loop-place-preserved : goal.loop-place-preserved
loop-place-preserved c = λ head es tells.
    rw c.in_ok-push.ensures.items (next-port (state head es) c.loop-place.place _ c.in-Some.port c.loop-place.ports.items refl
    (c.loop-place.invariant head es tells) (c.in-Some.ensures head es tells))

pub returns : goal.returns
returns c = λ head es tells.
    all-ports (state head es) c.loop-place.place c.loop-place.ports.items (c.loop-place.invariant head es tells) (omega (arith, ports-law head es))

pub returns-in_default : goal.returns-in_default
returns-in_default c = λ head es tells.
    last-port (state head es) c.loop-place.place _ c.loop-place.ports.items refl (c.loop-place.invariant head es tells)
    (sym c.in_default.is ∙ c.port.ensures head es tells)
