use Rattle.std.proofs.Common.{rules, ◌++◌}
use Rattle.std.proofs.KnownBytes.{Appends-trans}
use Rattle.hub_replay.proofs.Written.{piece-written, piece-begun, if_err}
use Rattle.hub_replay.proofs.fault_lines.write_pieces.Goals as goal

pub returns-in_err-write_whole-clause-beginning : goal.returns-in_err-write_whole-clause-beginning
returns-in_err-write_whole-clause-beginning g c =
    let (written, split, appended, same) = c.loop-piece.invariant in
    if_err c.from_residual.result
    (piece-begun c.args.pieces.now c.loop-piece.piece-index _ _ c.as_bytes.ensures.value
    (search rules) written _ _ _ split appended c.in_err-write_whole.ensures.beginning)

pub loop-piece-preserved : goal.loop-piece-preserved
loop-piece-preserved g c =
    let (written, split, appended, same) = c.loop-piece.invariant in (
      written ++ c.as_bytes.result.now,
      piece-written c.args.pieces.now c.loop-piece.piece-index _ _ c.as_bytes.ensures.value (search rules) written split,
      Appends-trans _ _ _ _ _ appended c.in_ok-write_whole.ensures.whole,
      search rules,
    )
