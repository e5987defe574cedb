use Rattle.std.proofs.Common.{◌≡◌, ◌≤◌, length, true}
use Rattle.std.specs.List.{list_all}
use Rattle.hub_base.specs.declared.head.Edition.{Edition}
use Rattle.hub_base.specs.Head.{has_case}
use Rattle.hub_trials.proofs.chances.Chances.cases.Given as goal

abbrev pub invariant-loop : goal.invariant-loop
invariant-loop l = record {
  few : length l.cases.items ≤ l.counter;
  most : l.end ≤ 8;
  fits : (edition : Edition) → list_all (has_case edition) l.cases.items ≡ true;
}
