use Rattle.std.proofs.Common.{◌≡◌, ◌++◌, drop, map}
use Rattle.hub_picture.specs.Waiters.{waits_for}
use Rattle.hub_picture.proofs.waiters.add_cases.Given as goal

abbrev pub invariant-loop-case : goal.invariant-loop-case
invariant-loop-case l =
    l.all.items ++ map (waits_for l.standing.moves.now.entries.now l.standing.moves.now.told.now l.standing.step l.standing.stalled.now l.call)
    (drop l.case-index l.cases)
    ≡ l.fn.all.items ++ map (waits_for l.standing.moves.now.entries.now l.standing.moves.now.told.now l.standing.step l.standing.stalled.now l.call)
    l.cases
