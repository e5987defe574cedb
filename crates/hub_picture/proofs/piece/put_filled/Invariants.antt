use Rattle.std.proofs.Common.{drop}
use Rattle.hub_picture.specs.Reading.{behind_words}
use Rattle.hub_picture.proofs.Reading.{Goes}
use Rattle.hub_picture.proofs.piece.put_filled.Given as goal

abbrev pub invariant-loop-place : goal.invariant-loop-place
invariant-loop-place l = Goes behind_words l.fn.out l.out l.words (drop l.place l.words)
