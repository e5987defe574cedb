use Rattle.std.proofs.Common.{◌≡◌, ◌++◌, drop}
use Rattle.std.specs.List.{flat_map}
use Rattle.hub_story.specs.LastMoves.{known_at}
use Rattle.hub_story_text.specs.WaiterText.{case_words}
use Rattle.hub_story_text.proofs.waiters.put_cases.Given as goal

abbrev pub invariant-loop-case : goal.invariant-loop-case
invariant-loop-case l =
    l.out.items ++ flat_map (case_words (known_at l.moves)) (drop l.case-index l.cases)
    ≡ l.fn.out.items ++ flat_map (case_words (known_at l.moves)) l.cases
