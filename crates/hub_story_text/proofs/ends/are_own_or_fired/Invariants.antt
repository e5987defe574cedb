use Rattle.std.proofs.Common.{◌≡◌, true, take}
use Rattle.std.specs.List.{AllByRecursion}
use Rattle.hub_story.specs.declared.told.Told.{Told}
use Rattle.hub_story_text.specs.EndsText.{is_own_or_fired}
use Rattle.hub_story_text.proofs.ends.are_own_or_fired.Given as goal

abbrev pub invariant-loop-told : goal.invariant-loop-told
invariant-loop-told l = AllByRecursion (λ (t : Told). is_own_or_fired l.place t ≡ true) (take l.told-index l.came)
