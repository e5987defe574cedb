use Rattle.std.proofs.Common.{drop}
use Rattle.hub_picture.specs.Reading.{behind_pieces}
use Rattle.hub_picture.proofs.Reading.{Goes}
use Rattle.hub_picture.proofs.piece.put_pieces.Given as goal

abbrev pub invariant-loop-piece : goal.invariant-loop-piece
invariant-loop-piece l = Goes behind_pieces l.fn.out l.out l.pieces (drop l.piece-index l.pieces)
