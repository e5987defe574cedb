use Rattle.std.proofs.Common.{◌∷◌, ◌+◌, ◌≡◌, List, add-one, ap, drop, suc, sym, subst, ◌∙◌}
use Rattle.std.proofs.Math.Seq.{drop-cons}
use Rattle.hub_trace.specs.Pieces.{Chain}
use Rattle.hub_trace.specs.declared.pieces.Piece.{Piece}
use Rattle.hub_trace.proofs.pieces.put_pieces.Goals as goal

pub loop-piece-preserved : goal.loop-piece-preserved
loop-piece-preserved c = λ new rest.
    let pieces = c.args.pieces.now in
    let i = c.loop-piece.piece-index in
    let piece = c.piece-item.result in
    let left : drop i pieces ≡ piece ∷ drop (i + 1) pieces =
    drop-cons pieces i piece c.loop-piece-test.true ∙ ap (λ p. p ∷ drop (suc i) pieces) (sym c.piece-item.is)
    ∙ ap (λ k. piece ∷ drop k pieces) (sym (add-one i)) in
    c.loop-piece.invariant new
    (subst (λ (ps : List Piece). Chain ps c.loop-piece.out.items new) (sym left) (c.put_piece.new.out.items, c.in_ok-put_piece.ensures, rest))
