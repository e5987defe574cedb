use Rattle.std.proofs.Common.{◌++◌, take, length-append, arith}
use Rattle.std.proofs.lemmas.Grind.{common_steps}
use Rattle.std.proofs.KnownBytes.{Consumes-trans}
use Rattle.hub_replay.proofs.pieces.read_up_to.Goals as goal

pub returns-in_err-extend_from_slice-clause-few : goal.returns-in_err-extend_from_slice-clause-few
returns-in_err-extend_from_slice-clause-few g c =
    let (came, most, same) = c.loop-chunk.invariant in
    let before = c.loop-chunk.bytes.items in
    let piece = take c.in-Ok.count c.read.new.buf in (
      before ++ piece,
      Consumes-trans _ _ _ before piece came c.in-Ok.ensures.bytes.0,
      grind (arith, common_steps, most, length-append before piece, c.loop-chunk.bytes.ok),
    )
