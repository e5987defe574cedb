use Rattle.std.proofs.Common.{◌++◌, List, take}
use Rattle.hub_story.specs.declared.told.Told.{Told}
use Rattle.hub_story.specs.LastMoves.{AreLast, IsWhole}
use Rattle.hub_story.proofs.last_moves.LastMoves.note_all.Given as goal

abbrev pub invariant-loop-told : goal.invariant-loop-told
invariant-loop-told l = record {
  last : (before : List Told) → AreLast l.entries before l.fn.self → AreLast l.entries (before ++ take l.told-index l.told) l.self;
  whole : IsWhole l.self;
}
