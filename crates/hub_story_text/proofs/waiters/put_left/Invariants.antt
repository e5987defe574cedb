use Rattle.std.proofs.Common.{◌≡◌, ◌++◌, drop}
use Rattle.hub_story_text.specs.WaiterText.{left_words}
use Rattle.hub_story_text.proofs.waiters.put_left.Given as goal

abbrev pub invariant-loop-told : goal.invariant-loop-told
invariant-loop-told l = l.out.items ++ left_words (drop l.told-index l.left) ≡ l.fn.out.items ++ left_words l.left
