use Rattle.std.proofs.Common.{◌≡◌, ◌++◌, filter, take}
use Rattle.hub_story_text.specs.EndsText.{ends_other, ends_words}
use Rattle.hub_story_text.proofs.ends.put_ends.Given as goal

abbrev pub invariant-loop-told : goal.invariant-loop-told
invariant-loop-told l = l.out.items ≡ l.fn.out.items ++ ends_words l.ending (filter (ends_other l.clock l.entries l.ending l.place) (take l.told-index l.came))
