use Rattle.std.proofs.Common.{◌≡◌, ◌++◌, drop}
use Rattle.std.specs.List.{AllByRecursion, flat_map}
use Rattle.hub_story_text.specs.Explained.{entries_of, told_of}
use Rattle.hub_story_text.specs.Waits.{EndsLate, line_at}
use Rattle.hub_story_text.proofs.waits.put_longest.Given as goal

abbrev pub invariant-loop-wait : goal.invariant-loop-wait
invariant-loop-wait l = record {
  text : l.out.items ++ flat_map (line_at l.explained.clock (entries_of l.explained) (told_of l.explained)) (drop l.wait-index l.longest)
      ≡ l.fn.out.items ++ flat_map (line_at l.explained.clock (entries_of l.explained) (told_of l.explained)) l.longest;
  late : AllByRecursion (EndsLate (told_of l.explained)) (drop l.wait-index l.longest);
}
