use Rattle.hub_live.proofs.Finishing.{Compared}
use Rattle.hub_live.proofs.held.compare_all.Given as goal

abbrev pub invariant-loop-one : goal.invariant-loop-one
invariant-loop-one g l = Compared l.initial.desk l.desk l.yielded l.one-iterator.rest.items l.fn.held.items
