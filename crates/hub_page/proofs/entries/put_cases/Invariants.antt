use Rattle.std.proofs.Common.{◌≡◌, ◌++◌, drop}
use Rattle.std.specs.List.{flat_map}
use Rattle.hub_base.specs.Lines.{case_field}
use Rattle.hub_page.proofs.entries.put_cases.Given as goal

abbrev pub invariant-loop-case : goal.invariant-loop-case
invariant-loop-case l = l.out.items ++ flat_map case_field (drop l.case-index l.cases) ≡ l.fn.out.items ++ flat_map case_field l.cases
