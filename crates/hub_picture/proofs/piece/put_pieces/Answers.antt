use Rattle.hub_picture.proofs.Reading.{begin, piece-goes, pieces-end}
use Rattle.hub_picture.specs.Reading.{behind_pieces}
use Rattle.hub_picture.proofs.piece.put_pieces.Goals as goal

pub loop-piece-init : goal.loop-piece-init
loop-piece-init c = begin behind_pieces c.args.out.now c.args.pieces.now

pub loop-piece-preserved : goal.loop-piece-preserved
loop-piece-preserved c =
    piece-goes _ _ c.args.pieces.now c.loop-piece.piece-index c.piece-item.result c.loop-piece-test.true c.piece-item.is
    c.loop-piece.invariant (rw c.in-Ok.is at c.put_piece.ensures)

pub returns : goal.returns
returns c = pieces-end c.args.pieces.now c.loop-piece.piece-index c.loop-piece-test.false c.loop-piece.invariant
