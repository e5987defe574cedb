use Rattle.std.proofs.Common.{◌≡◌, ◌++◌, drop, length}
use Rattle.std.specs.List.{flat_map}
use Rattle.hub_picture.specs.Levels.{levels_on, rows_from}
use Rattle.hub_picture.proofs.levels.levels_in.Given as goal

abbrev pub invariant-loop-one : goal.invariant-loop-one
invariant-loop-one l = record {
  strips : l.strips.items ++ rows_from l.window l.moves.entries.now l.moves.told.now (length l.strips.items) (drop l.one-index l.made)
      ≡ rows_from l.window l.moves.entries.now l.moves.told.now 0 l.made;
  levels : l.held.items ≡ flat_map (levels_on l.window l.moves.entries.now l.moves.told.now) l.strips.items;
}
