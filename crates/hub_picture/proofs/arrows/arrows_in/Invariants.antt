use Rattle.std.proofs.Common.{◌≡◌}
use Rattle.hub_picture.specs.Drawings.{arrows_to}
use Rattle.hub_picture.proofs.arrows.arrows_in.Given as goal

abbrev pub invariant-loop-before : goal.invariant-loop-before
invariant-loop-before l = l.all.items ≡ arrows_to l.before l.window l.moves.entries.now l.moves.told.now
