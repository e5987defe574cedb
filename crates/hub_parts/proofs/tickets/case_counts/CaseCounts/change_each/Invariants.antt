use Rattle.std.proofs.Common.{◌≡◌, drop}
use Rattle.hub_parts.specs.CaseCounts.{all_changed, AllAllow, changed_by, CanChange}
use Rattle.hub_parts.proofs.tickets.case_counts.CaseCounts.change_each.Given as goal

abbrev pub invariant-loop-case : goal.invariant-loop-case
invariant-loop-case l =
    (all_changed (changed_by l.by) l.self (drop l.case-index l.cases) ≡ all_changed (changed_by l.by) l.fn.self l.cases)
    × AllAllow (changed_by l.by) (CanChange l.by) l.self (drop l.case-index l.cases)
