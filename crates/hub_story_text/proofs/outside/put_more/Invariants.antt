use Rattle.std.proofs.Common.{◌≡◌, ◌++◌, codes, drop}
use Rattle.std.specs.List.{flat_map}
use Rattle.hub_story_text.specs.OutsideText.{outsider_words}
use Rattle.hub_story_text.proofs.outside.put_more.Given as goal

abbrev pub invariant-loop-outsider : goal.invariant-loop-outsider
invariant-loop-outsider l =
    l.out.items ++ flat_map (outsider_words (codes "; ")) (drop l.outsider-index l.outside)
    ≡ l.fn.out.items ++ flat_map (outsider_words (codes "; ")) l.outside
