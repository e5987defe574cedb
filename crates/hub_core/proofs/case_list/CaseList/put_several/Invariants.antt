-- The cases so far are appended.
use Rattle.std.proofs.Common.{◌≡◌, ◌≤◌, ◌+◌, ◌++◌, take}
use Rattle.hub_core.proofs.case_list.CaseList.put_several.Given as goal

abbrev pub invariant-loop-case : goal.invariant-loop-case
invariant-loop-case l = record {
  items : l.self.items ≡ l.fn.self.items ++ take l.case-index l.cases;
  room : l.self.room ≡ l.fn.self.room;
  beside : l.self.beside ≤ l.fn.self.beside + l.case-index;
  beside_room : l.self.beside_room ≡ l.fn.self.beside_room;
}
