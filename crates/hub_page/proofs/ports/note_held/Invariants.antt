use Rattle.std.proofs.Common.{◌≡◌, ◌≤◌, ◌+◌, cond, length, max, take}
use Rattle.std.specs.List.{list_any}
use Rattle.hub_base.specs.declared.limits.TheConstants.{MOST_PORTS}
use Rattle.hub_base.specs.declared.value.Port.{Port}
use Rattle.hub_story.specs.Levels.{count_at, level_of}
use Rattle.hub_page.specs.Ports.{moves_on}
use Rattle.hub_page.proofs.ports.note_held.Given as goal

abbrev pub invariant-loop-told : goal.invariant-loop-told
invariant-loop-told l = record {
  most : (p : Port) → p.0 ≤ MOST_PORTS → count_at l.most.items p
      ≡ cond (list_any (moves_on l.entries p) (take l.told-index l.came)) (max (count_at l.fn.most.items p) (level_of l.levels p))
      (count_at l.fn.most.items p);
  whole : length l.most.items ≡ MOST_PORTS + 1;
}
