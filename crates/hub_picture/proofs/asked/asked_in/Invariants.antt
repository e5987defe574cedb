use Rattle.std.proofs.Common.{◌≡◌, ◌++◌, drop, filter}
use Rattle.hub_picture.specs.Drawings.{asked, is_shown}
use Rattle.hub_picture.proofs.asked.asked_in.Given as goal

abbrev pub invariant-loop-number : goal.invariant-loop-number
invariant-loop-number l =
    l.all.items ++ filter (is_shown l.shown l.window) (asked l.clock l.entries l.story l.number (drop l.number l.entries))
    ≡ filter (is_shown l.shown l.window) (asked l.clock l.entries l.story 0 l.entries)
