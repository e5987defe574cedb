use Rattle.hub_story_text.proofs.lines.put_end.Goals as goal

pub returns : goal.returns
returns c =
    let answer = rw (c.cases-cases.ensures.cases, c.part_of-part.ensures) at c.in_ok-ended_cell.ensures in
    let value = rw c.cases-cases.ensures.cases at c.in_ok-value_cell.ensures in
    rw c.in-Some.is (λ before line at is. value before _ at (c.in_ok-waited_cell.ensures before _ at (answer before line at is)))

pub returns-in_default : goal.returns-in_default
returns-in_default c = rw c.in_default.is (rw c.len.ensures at c.put_waits.ensures)
