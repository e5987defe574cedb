use Rattle.std.proofs.Common.{◌≡◌, ◌++◌, drop}
use Rattle.std.specs.List.{flat_map}
use Rattle.hub_story.specs.LastMoves.{known_at}
use Rattle.hub_story_text.specs.WaiterText.{waiter_words}
use Rattle.hub_story_text.proofs.waiters.put_calls.Given as goal

abbrev pub invariant-loop-told : goal.invariant-loop-told
invariant-loop-told l =
    l.out.items ++ flat_map (waiter_words l.entries (known_at l.moves)) (drop l.told-index l.waiters)
    ≡ l.fn.out.items ++ flat_map (waiter_words l.entries (known_at l.moves)) l.waiters
