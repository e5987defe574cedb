-- How things stand after a step.
use Rattle.std.specs.Prelude.{◌+◌}
use Rattle.hub_story.specs.LastMoves.{AreLast}
use Rattle.hub_story.specs.Levels.{told_by}
use Rattle.hub_picture.specs.declared.waiters.Standing.{Standing}

-- what is known of it is so
abbrev pub IsStanding : Standing → Type 0
IsStanding s = AreLast s.moves.now.entries.now (told_by (s.step + 1) s.moves.now.told.now) s.last.now
