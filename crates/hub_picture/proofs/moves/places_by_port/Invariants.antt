use Rattle.std.proofs.Common.{filter, take}
use Rattle.hub_base.specs.declared.value.Port.{Port}
use Rattle.hub_story.specs.OfPorts.{things_on}
use Rattle.hub_picture.specs.Moves.{StandAt, is_told_on}
use Rattle.hub_picture.proofs.moves.places_by_port.Given as goal

abbrev pub invariant-loop-place : goal.invariant-loop-place
invariant-loop-place l = (q : Port) → StandAt l.told (things_on l.all q) (filter (is_told_on l.entries q) (take l.place l.told))
