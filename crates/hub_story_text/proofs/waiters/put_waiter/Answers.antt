use Rattle.std.proofs.Common.{codes}
use Rattle.std.specs.List.{flat_map}
use Rattle.std.proofs.lemmas.Result.{on_ok_weaker}
use Rattle.hub_story.specs.LastMoves.{known_at}
use Rattle.hub_story_text.specs.WaiterText.{case_words, who_words}
use Rattle.hub_base.specs.Values.{cases_at}
use Rattle.hub_story_text.proofs.Chains.{one-more}
use Rattle.hub_story_text.proofs.waiters.put_waiter.Goals as goal

pub returns : goal.returns
returns c =
    on_ok_weaker c.put_cases.result
    (one-more c.args.out.now.items c.put_who.new.out.items c.put_cases.new.out.items (who_words (codes " waits since step ") c.args.told.now)
    (flat_map (case_words (known_at c.args.moves.now))
    (cases_at c.args.entries.now c.args.told.now.asked)) c.in_ok-put_who.ensures)
    (rw c.cases_at.ensures at c.put_cases.ensures)
