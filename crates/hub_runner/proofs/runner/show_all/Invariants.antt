use Rattle.hub_runner.proofs.Ports.{Shown}
use Rattle.hub_runner.proofs.runner.show_all.Given as goal

abbrev pub invariant-loop-other : goal.invariant-loop-other
invariant-loop-other g l = Shown l.initial.first l.first l.initial.others l.others l.other-index
