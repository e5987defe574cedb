use Rattle.std.proofs.Common.{[]}
use Rattle.hub_trace.proofs.diagram.first_lines.Goals as goal

pub loop-pid-preserved : goal.loop-pid-preserved
loop-pid-preserved c = c.in_ok-put_process.ensures [] c.loop-pid.invariant
