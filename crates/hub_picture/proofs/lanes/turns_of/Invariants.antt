use Rattle.std.proofs.Common.{◌≡◌, take}
use Rattle.hub_picture.specs.Lanes.{turns}
use Rattle.hub_picture.proofs.lanes.turns_of.Given as goal

abbrev pub invariant-loop-told : goal.invariant-loop-told
invariant-loop-told l = l.turns.items ≡ turns l.entries (take l.told-index l.told)
