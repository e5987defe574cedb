use Rattle.std.proofs.Common.{◌∙◌, ap, sym, take}
use Rattle.hub_story_text.specs.declared.waits.TheConstants.{MOST_LONGEST}
use Rattle.hub_story_text.proofs.waits.rank.Goals as goal

pub returns : goal.returns
returns c =
    let ranked = rw c.deref.ensures.value at c.rank_of-rank.ensures.ranked in
    c.truncate.ensures.items ∙ ap (take MOST_LONGEST) (c.in_ok-insert.ensures.items ∙ sym ranked)
