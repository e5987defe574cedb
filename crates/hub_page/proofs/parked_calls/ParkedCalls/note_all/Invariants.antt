use Rattle.std.proofs.Common.{◌++◌, List, take}
use Rattle.hub_story.specs.declared.told.Told.{Told}
use Rattle.hub_page.specs.ParkedCalls.{AreParked, IsWhole}
use Rattle.hub_page.proofs.parked_calls.ParkedCalls.note_all.Given as goal

abbrev pub invariant-loop-told : goal.invariant-loop-told
invariant-loop-told l = record {
  parked : (until : List Told) → AreParked l.procs until l.fn.self → AreParked l.procs (until ++ take l.told-index l.told) l.self;
  whole : IsWhole l.procs l.self;
}
