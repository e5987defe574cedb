use Rattle.std.proofs.Common.{◌≡◌, arith, length}
use Rattle.hub_story_text.proofs.lines.put_cells.Goals as goal

pub returns : goal.returns
returns c =
    let before = c.args.out.now.items in
    let at : length before ≡ c.len-start.result = omega (arith, c.len-start.ensures, c.args.out.now.ok) in
    let number = rw c.number_of.ensures at c.in_ok-put_right.ensures in
    let end = c.in_ok-put_end.ensures before _ at (c.in_ok-asks_cell.ensures before _ at number) in
    c.in_ok-ends_cells.ensures before _ at (c.in_ok-clock_cell.ensures before _ at end)
