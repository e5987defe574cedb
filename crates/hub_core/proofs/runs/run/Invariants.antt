-- The run so far.
use Rattle.hub_core.proofs.Journeys.{RunSoFar}
use Rattle.hub_core.proofs.runs.run.Given as goal

abbrev pub invariant-loop-index : goal.invariant-loop-index
invariant-loop-index l = RunSoFar (l.initial.hub.memory.hub.terms) l.entries l.index l.hub.memory.hub l.events.items
