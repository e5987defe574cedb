use Rattle.std.proofs.Common.{◌≡◌, filter, take}
use Rattle.hub_picture.specs.Waiters.{is_by}
use Rattle.hub_picture.proofs.waiters.all_by.Given as goal

abbrev pub invariant-loop-told : goal.invariant-loop-told
invariant-loop-told l = l.all.items ≡ filter (is_by l.step) (take l.told-index l.told)
