use Rattle.std.proofs.Common.{◌≡◌, take}
use Rattle.std.specs.List.{AllByRecursion}
use Rattle.hub_story.specs.declared.told.Told.{Told}
use Rattle.hub_story_text.proofs.ends.are_own.Given as goal

abbrev pub invariant-loop-told : goal.invariant-loop-told
invariant-loop-told l = AllByRecursion (λ (t : Told). t.asked ≡ l.place) (take l.told-index l.came)
