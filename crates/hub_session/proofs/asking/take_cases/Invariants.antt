use Rattle.std.proofs.Common.{◌≡◌, length, map, take, true}
use Rattle.std.specs.List.{list_all}
use Rattle.hub_session.specs.Structs.{case_in, suits}
use Rattle.hub_session.proofs.asking.take_cases.Given as goal

abbrev pub invariant-loop-i : goal.invariant-loop-i
invariant-loop-i l = record {
  same : take l.i l.places ≡ map case_in (take l.i l.cases);
  count : length l.places ≡ length l.fn.places;
  suit : list_all (suits l.edition) (take l.i l.cases) ≡ true;
}
