use Rattle.std.proofs.Common.{◌≡◌, take}
use Rattle.std.specs.List.{AllByRecursion, list_all}
use Rattle.hub_base.specs.Head.{has_case}
use Rattle.hub_base.specs.Text.{CaseFits}
use Rattle.hub_base.proofs.head.Edition.has_cases.Given as goal

abbrev pub invariant-loop-case : goal.invariant-loop-case
invariant-loop-case l = record {
  is : l.all ≡ list_all (has_case l.self) (take l.case-index l.cases);
  fits : AllByRecursion CaseFits (take l.case-index l.cases);
}
