use Rattle.hub_runner.proofs.Appended.{after}
use Rattle.hub_runner.proofs.writer.put_ports.Goals as goal

pub returns-in-Err-clause-err : goal.returns-in-Err-clause-err
returns-in-Err-clause-err c = after _ _ _ _ c.loop-port.invariant.grown.1 c.in-Err.ensures.err
