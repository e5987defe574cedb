use Rattle.hub_story_text.proofs.lines.put_waits.Goals as goal

pub returns : goal.returns
returns c before line at is = c.in_ok-still_cell.ensures before _ at (c.in_ok-ended_cell.ensures before line at is)
