use Rattle.std.proofs.Common.{◌≤◌}
use Rattle.hub_picture.proofs.Reading.{LeadsOn}
use Rattle.hub_picture.proofs.svg.legend.put_signs.Given as goal

abbrev pub invariant-loop-mark : goal.invariant-loop-mark
invariant-loop-mark l = record {
  on : LeadsOn l.fn.out l.out;
  few : l.place ≤ l.mark-index;
}
