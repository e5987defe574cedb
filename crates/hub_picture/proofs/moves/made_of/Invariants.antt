use Rattle.std.proofs.Common.{◌≡◌, filter, take}
use Rattle.hub_picture.specs.Drawings.{makes_port}
use Rattle.hub_picture.proofs.moves.made_of.Given as goal

abbrev pub invariant-loop-told : goal.invariant-loop-told
invariant-loop-told l = l.made.items ≡ filter makes_port (take l.told-index l.told)
