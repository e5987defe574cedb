use Rattle.std.proofs.Common.{◌≡◌, ◌++◌, drop, length}
use Rattle.hub_picture.specs.Levels.{strips_from}
use Rattle.hub_picture.proofs.strips.strips_of.Given as goal

abbrev pub invariant-loop-told : goal.invariant-loop-told
invariant-loop-told l =
    l.strips.items ++ strips_from l.entries l.all (length l.strips.items) (drop l.told-index l.made) ≡ strips_from l.entries l.all 0 l.made
