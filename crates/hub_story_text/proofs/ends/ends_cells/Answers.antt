use Rattle.std.proofs.Common.{◌∙◌, ◌++◌, ap, sym}
use Rattle.hub_story_text.proofs.OwnEnds.{freed-ends, own-ends}
use Rattle.hub_story_text.proofs.ends.ends_cells.Goals as goal

pub returns-then-are_own : goal.returns-then-are_own
returns-then-are_own c before line at is =
    is ∙ ap (λ l. before ++ l) (sym (own-ends c.args.clock c.args.entries.now c.args.place c.args.came.now line (rw c.if-are_own.true at c.are_own.ensures)))

pub returns-then-are_own_or_fired : goal.returns-then-are_own_or_fired
returns-then-are_own_or_fired c before line at is =
    c.in_ok-ends_cell.ensures before line at is
    ∙ ap (λ l. before ++ l) (sym (freed-ends c.args.clock c.args.entries.now c.args.place c.args.came.now line
    (rw c.if-are_own_or_fired.true at c.are_own_or_fired.ensures)))

pub returns : goal.returns
returns c before line at is =
    c.in_ok-ends_cell-5.ensures before _ at
    (c.in_ok-ends_cell-4.ensures before _ at
    (c.in_ok-ends_cell-3.ensures before _ at
    (c.in_ok-ends_cell-2.ensures before _ at (c.in_ok-ends_cell.ensures before _ at is))))
