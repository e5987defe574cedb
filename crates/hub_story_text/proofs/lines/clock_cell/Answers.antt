use Rattle.std.proofs.Common.{◌∙◌, ◌++◌, ap, cond, codes, sym, []}
use Rattle.hub_story_text.specs.Cells.{with_cell}
use Rattle.hub_story_text.specs.declared.cells.TheConstants.{VALUE}
use Rattle.hub_story_text.proofs.Written.{cell-put}
use Rattle.hub_story_text.proofs.lines.clock_cell.Goals as goal

pub returns-then-not-is_clock : goal.returns-then-not-is_clock
returns-then-not-is_clock c before line at is =
    let other = sym c.is_clock.ensures ∙ c.if-not-is_clock.true in
    is ∙ ap (λ b. before ++ with_cell VALUE line (cond b (codes "the clock") [])) (sym other)

pub returns : goal.returns
returns c before line at is =
    let words = c.in_ok-extend_from_slice.ensures.items
    ∙ ap (λ b. c.open_cell.new.out.items ++ cond b (codes "the clock") []) (sym (sym c.is_clock.ensures ∙ c.if-not-is_clock.false)) in
    cell-put _ _ before line _ _ _ _ _ _ at is c.in_ok-cell.ensures words c.close_cell.ensures
