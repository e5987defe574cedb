use Rattle.std.proofs.Common.{codes}
use Rattle.hub_base.proofs.Growing.{flat-next}
use Rattle.hub_story_text.specs.OutsideText.{outsider_words}
use Rattle.hub_story_text.proofs.outside.put_more.Goals as goal

pub loop-outsider-preserved : goal.loop-outsider-preserved
loop-outsider-preserved c =
    flat-next (outsider_words (codes "; ")) c.args.outside.now c.loop-outsider.outsider-index _ c.loop-outsider.out.items c.put_outsider.new.out.items _
    c.loop-outsider-test.true c.loop-outsider.invariant c.in_ok-put_outsider.ensures
