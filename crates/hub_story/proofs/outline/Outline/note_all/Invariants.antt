use Rattle.std.proofs.Common.{◌++◌, List, take}
use Rattle.hub_story.specs.declared.told.Told.{Told}
use Rattle.hub_story.specs.Outlines.{IsOutline}
use Rattle.hub_story.proofs.outline.Outline.note_all.Given as goal

abbrev pub invariant-loop-told : goal.invariant-loop-told
invariant-loop-told l = (before : List Told) → IsOutline l.entries before l.fn.self → IsOutline l.entries (before ++ take l.told-index l.told) l.self
