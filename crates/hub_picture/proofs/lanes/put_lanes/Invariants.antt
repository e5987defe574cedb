use Rattle.std.proofs.Common.{◌≡◌, ◌++◌, drop}
use Rattle.hub_picture.specs.Lanes.{lanes_from, opening}
use Rattle.hub_picture.proofs.lanes.put_lanes.Given as goal

abbrev pub invariant-loop-turn : goal.invariant-loop-turn
invariant-loop-turn l = l.lanes.items ++ lanes_from l.lane (drop l.turn-index l.turns) ≡ l.fn.lanes.items ++ lanes_from (opening l.pid) l.turns
