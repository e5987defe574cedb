use Rattle.std.proofs.Common.{◌≡◌, ◌++◌, drop}
use Rattle.std.specs.List.{flat_map}
use Rattle.hub_picture.specs.Waiters.{waiters_of}
use Rattle.hub_picture.proofs.waiters.add_calls.Given as goal

abbrev pub invariant-loop-call : goal.invariant-loop-call
invariant-loop-call l =
    l.all.items ++ flat_map (waiters_of l.standing.moves.now.entries.now l.standing.moves.now.told.now l.standing.step l.standing.stalled.now)
    (drop l.call-index l.calls)
    ≡ l.fn.all.items ++ flat_map (waiters_of l.standing.moves.now.entries.now l.standing.moves.now.told.now l.standing.step l.standing.stalled.now)
    l.calls
