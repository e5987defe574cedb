use Rattle.std.proofs.Common.{◌≡◌, ◌≤◌, ◌++◌, None, drop, filter}
use Rattle.hub_picture.specs.Levels.{levels_from, levels_on, shows_level}
use Rattle.hub_picture.proofs.levels.add_levels.Given as goal

abbrev pub invariant-loop-index : goal.invariant-loop-index
invariant-loop-index l = record {
  strip : l.held.strip ≡ l.strip;
  goes_on : l.held.until ≡ None;
  sent : l.held.level.sent ≤ l.index;
  received : l.held.level.received ≤ l.index;
  same : l.levels.items ++ filter (shows_level l.window) (levels_from l.entries l.strip l.held.from l.held.level (drop l.index l.told))
      ≡ l.fn.levels.items ++ levels_on l.window l.entries l.told l.strip;
}
