use Rattle.std.proofs.Common.{◌-◌, ◌≤◌, take}
use Rattle.arrayvec.specs.ArrayVec.{array_vec_len}
use Rattle.hub_base.specs.declared.limits.TheConstants.{CASE_PLACES}
use Rattle.hub_text.specs.Quick.{CasesStand}
use Rattle.hub_text.proofs.quick.cases_into.Given as goal

-- the cases that were read so far stand before this place
abbrev pub invariant-loop-end : goal.invariant-loop-end
invariant-loop-end l = record {
  stand : CasesStand l.edition l.bytes l.start (take l.count l.cases.items) l.end;
  few : l.count ≤ array_vec_len l.cases;
}

abbrev pub decreases-loop-end : goal.decreases-loop-end
decreases-loop-end l = CASE_PLACES - l.count
