use Rattle.std.proofs.Common.{◌∙◌, ◌+◌, ◌-◌, append_assoc, codes, decimal}
use Rattle.hub_story_text.proofs.Written.{cell-put}
use Rattle.hub_story_text.proofs.lines.still_cell.Goals as goal

pub returns : goal.returns
returns c before line at is =
    let still = c.in_ok-put_still.ensures
    ∙ append_assoc c.open_cell.new.out.items (decimal (c.args.count - (c.args.place + 1))) (codes ", still") in
    cell-put _ _ before line _ _ _ _ _ _ at is c.in_ok-cell.ensures still c.close_cell.ensures
