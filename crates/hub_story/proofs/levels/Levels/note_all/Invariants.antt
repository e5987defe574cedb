use Rattle.std.proofs.Common.{◌++◌, List, take}
use Rattle.hub_story.specs.declared.told.Told.{Told}
use Rattle.hub_story.specs.Levels.{AreLevels, IsWhole}
use Rattle.hub_story.proofs.levels.Levels.note_all.Given as goal

abbrev pub invariant-loop-told : goal.invariant-loop-told
invariant-loop-told l = record {
  counted : (before : List Told) → AreLevels l.entries before l.fn.self → AreLevels l.entries (before ++ take l.told-index l.told) l.self;
  whole : IsWhole l.self;
}
