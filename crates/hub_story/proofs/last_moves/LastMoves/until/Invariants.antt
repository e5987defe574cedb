use Rattle.std.proofs.Common.{◌+◌, take}
use Rattle.hub_story.specs.LastMoves.{AreLast, IsWhole}
use Rattle.hub_story.specs.Levels.{told_by}
use Rattle.hub_story.proofs.last_moves.LastMoves.until.Given as goal

abbrev pub invariant-loop-told : goal.invariant-loop-told
invariant-loop-told l = record {
  last : AreLast l.entries (told_by (l.step + 1) (take l.told-index l.told)) l.last;
  whole : IsWhole l.last;
}
