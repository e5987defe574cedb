-- Fewer are left each time.
use Rattle.arrayvec.specs.ArrayVec.{array_vec_len}
use Rattle.hub_core.proofs.machine.empty.Given as goal

abbrev pub invariant-loop-event : goal.invariant-loop-event
invariant-loop-event l = Unit {0}

abbrev pub decreases-loop-event : goal.decreases-loop-event
decreases-loop-event l = array_vec_len l.events
