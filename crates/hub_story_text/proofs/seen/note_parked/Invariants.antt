use Rattle.std.proofs.Common.{◌≡◌, ◌++◌, filter, take}
use Rattle.hub_laws.specs.Replies.{is_parked}
use Rattle.hub_story.specs.declared.told.Told.{Told}
use Rattle.hub_story_text.proofs.seen.note_parked.Given as goal

abbrev pub invariant-loop-told : goal.invariant-loop-told
invariant-loop-told l = l.waiting.items ≡ l.fn.waiting.items ++ filter (λ (t : Told). is_parked t.event.what) (take l.told-index l.came)
