use Rattle.hub_story_text.proofs.Written.{cell-put}
use Rattle.hub_story_text.proofs.ends.ends_cell.Goals as goal

pub returns : goal.returns
returns c before line at is =
    cell-put _ _ before line _ _ _ _ _ _ at is c.in_ok-cell.ensures c.in_ok-put_ends.ensures c.close_cell.ensures
