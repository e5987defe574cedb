use Rattle.hub_base.specs.declared.limits.TheConstants.{CASE_PLACES}
use Rattle.std.proofs.Common.{◌≡◌, ◌≤◌, length}
use Rattle.arrayvec.specs.ArrayVec.{array_vec_len}
use Rattle.hub_base.specs.Lines.{read_select, ends_default}
use Rattle.hub_text.proofs.Gathered.{rest_of, so_far}
use Rattle.hub_text.proofs.selects.read_select.Given as goal

-- the fields that are left say the same behind the cases so far
abbrev pub invariant-loop-field : goal.invariant-loop-field
invariant-loop-field l = record {
  same : read_select l.edition l.pid l.word (ends_default l.initial.fields) ≡ rest_of l.edition l.pid l.word l.count (so_far l.fine l.cases.items)
      (ends_default l.fields);
  room : array_vec_len l.cases ≤ l.count;
  few : l.count ≤ CASE_PLACES;
}

abbrev pub decreases-loop-field : goal.decreases-loop-field
decreases-loop-field l = length l.fields
