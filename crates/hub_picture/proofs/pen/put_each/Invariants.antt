use Rattle.hub_picture.proofs.Reading.{LeadsOn}
use Rattle.hub_picture.proofs.pen.put_each.Given as goal

abbrev pub invariant-loop-thing : goal.invariant-loop-thing
invariant-loop-thing g l = LeadsOn l.fn.out l.out
