-- A line that is written cell by cell, as the last of a text.
use Rattle.std.proofs.Common.{◌≡◌, ◌-◌, ◌==◌, ℕ, Bool, true, false, List, [], ◌∷◌, ◌++◌, length, take}
use Rattle.std.proofs.Common.{refl, ap, ◌∙◌, sym, arith, append-nil, append_assoc, length-append}
use Rattle.std.specs.Prelude.{cond}
use Rattle.std.proofs.Math.Seq.{take-append_seam}
use Rattle.std.proofs.lemmas.Bool.{eq-eqb, eqb-true}
use Rattle.hub_story_text.specs.declared.cells.Cell.{Cell}
use Rattle.hub_story_text.specs.Cells.{gap, spaces, with_cell}
use Rattle.hub_story_text.specs.Writing.{Opens, closed}

-- a cell is begun, written and ended
pub cell-put : (start column : ℕ) (before line words old opened written new : List ℕ) (cell : Cell) → length before ≡ start → old ≡ before ++ line →
    Opens start column old opened cell → written ≡ opened ++ words → new ≡ closed written cell → new ≡ before ++ with_cell column line words
cell-put start column before line [] old opened written new cell at is opens put done =
    let same : written ≡ opened = put ∙ append-nil opened in
    done ∙ ap (λ b. cond b (take cell.before written) written) (eq-eqb (length written) cell.begin (ap length same ∙ sym opens.begin))
    ∙ ap (λ k. take k written) opens.before ∙ ap (take (length old)) (same ∙ opens.text)
    ∙ take-append_seam old (spaces (gap column (length old - start))) ∙ is
cell-put start column before line (c ∷ cs) old opened written new cell at is opens put done =
    by (length written == cell.begin) refl
  where
    by : (b : Bool) → (length written == cell.begin) ≡ b → new ≡ before ++ with_cell column line (c ∷ cs)
    by true e =
        absurd (omega (arith, eqb-true (length written) cell.begin e, ap length put, length-append opened (c ∷ cs), opens.begin))
    by false e =
        let len : length old - start ≡ length line = omega (arith, ap length is, length-append before line, at) in
        let stands : opened ≡ before ++ (line ++ spaces (gap column (length line))) =
        opens.text ∙ ap (λ k. old ++ spaces (gap column k)) len ∙ ap (λ l. l ++ spaces (gap column (length line))) is
        ∙ append_assoc before line (spaces (gap column (length line))) in
        done ∙ ap (λ b. cond b (take cell.before written) written) e ∙ put ∙ ap (λ l. l ++ c ∷ cs) stands
        ∙ append_assoc before (line ++ spaces (gap column (length line))) (c ∷ cs)
