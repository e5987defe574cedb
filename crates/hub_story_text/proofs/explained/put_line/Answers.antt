use Rattle.std.proofs.Common.{codes}
use Rattle.hub_story_text.proofs.Chains.{one-more}
use Rattle.hub_story_text.proofs.explained.put_line.Goals as goal

pub returns : goal.returns
returns c = one-more c.args.out.now.items _ _ _ (codes "\n") c.in_ok-put_told_cells.ensures c.in_ok-extend_from_slice.ensures.items
