use Rattle.std.proofs.Common.{◌≡◌, filter, take}
use Rattle.hub_picture.specs.Drawings.{stalls_in}
use Rattle.hub_picture.proofs.stalls.all_stalled.Given as goal

abbrev pub invariant-loop-told : goal.invariant-loop-told
invariant-loop-told l = l.all.items ≡ filter (stalls_in l.window) (take l.told-index l.told)
