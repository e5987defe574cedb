-- what grows by the other pieces grows by all
use Rattle.std.proofs.Common.{ℕ, List, drop}
use Rattle.hub_trace.specs.Pieces.{Chain}
use Rattle.hub_trace.proofs.pieces.put_pieces.Given as goal

abbrev pub invariant-loop-piece : goal.invariant-loop-piece
invariant-loop-piece l = (new : List ℕ) → Chain (drop l.piece-index l.pieces) l.out.items new → Chain l.pieces l.fn.out.items new
