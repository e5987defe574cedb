use Rattle.std.proofs.Common.{rules, ◌∙◌, ◌++◌, ap, sym}
use Rattle.std.specs.List.{flat_map}
use Rattle.std.proofs.lemmas.Result.{on_ok_weaker}
use Rattle.hub_story.specs.LastMoves.{known_at}
use Rattle.hub_story_text.specs.WaiterText.{left_words, waiter_words}
use Rattle.hub_story_text.proofs.Chains.{one-more}
use Rattle.hub_story_text.proofs.StepLines.{not-empty}
use Rattle.hub_story_text.proofs.waiters.put_waiters.Goals as goal

pub returns : goal.returns
returns c =
    let out = c.args.out.now.items in
    let heading = c.args.heading.now in
    let left = left_words c.args.moves.now.receivers.left.items in
    let said = one-more out c.extend_from_slice-2.new.self.items c.put_left.new.out.items heading left c.in_ok-extend_from_slice.ensures.items
    (rw c.deref.ensures.value at c.in_ok-put_left.ensures) in
    on_ok_weaker c.put_calls.result
    (λ is. one-more out c.put_left.new.out.items c.put_calls.new.out.items (heading ++ left)
    (flat_map (waiter_words c.args.entries.now (known_at c.args.moves.now)) c.args.waiters.now) said is
    ∙ ap (λ l. out ++ l) (sym (not-empty c.args.nobody.now heading c.args.entries.now _ c.args.moves.now.receivers.left.items c.args.waiters.now
    (λ is. search (rules, is)))))
    c.put_calls.ensures
