use Rattle.std.proofs.Common.{◌≡◌, ◌++◌, drop, filter}
use Rattle.hub_story.specs.declared.told.Told.{Told}
use Rattle.hub_story.specs.Waiting.{is_stalled}
use Rattle.hub_story_text.proofs.steps.stalled_of.Given as goal

abbrev pub invariant-loop-told : goal.invariant-loop-told
invariant-loop-told l =
    l.stalled.items ++ filter (λ (t : Told). is_stalled t.event.what) (drop l.told-index l.came)
    ≡ filter (λ (t : Told). is_stalled t.event.what) l.came
