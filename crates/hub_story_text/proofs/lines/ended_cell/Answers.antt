use Rattle.hub_story_text.proofs.Written.{cell-put}
use Rattle.hub_story_text.proofs.lines.ended_cell.Goals as goal

pub returns : goal.returns
returns c before line at is =
    cell-put _ _ before line _ _ _ _ _ _ at is c.in_ok-cell.ensures c.in_ok-put_ended.ensures c.close_cell.ensures
