use Rattle.std.proofs.Common.{◌≡◌, ◌++◌, take}
use Rattle.std.specs.List.{filter_map}
use Rattle.hub_story.specs.LastCalls.{tells_of}
use Rattle.hub_story.proofs.walk.tell.Given as goal

abbrev pub invariant-loop-event : goal.invariant-loop-event
invariant-loop-event l =
    l.told.items ≡ l.initial.told.items ++ filter_map (tells_of l.calls l.place) (take l.event-index l.events)
