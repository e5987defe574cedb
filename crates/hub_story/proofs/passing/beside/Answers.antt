use Rattle.std.proofs.Common.{[], ◌∷◌, ◌++◌, ap, sym, ◌∙◌}
use Rattle.hub_story.specs.declared.moved.Moved.{Moved}
use Rattle.hub_story.proofs.passing.beside.Goals as goal
use Rattle.hub_story.proofs.Beside.{beside-kept, beside-none, beside-past}

pub loop-place-init : goal.loop-place-init
loop-place-init c = c.new-passages.ensures.items ∙ sym (beside-none c.args.sends.now)

pub loop-place-preserved : goal.loop-place-preserved
loop-place-preserved c =
    let found = c.in-Some.ensures.lookup.3 in
    let received = c.index-receives-place in
    let all = c.loop-place.passages.items in
    beside-kept c.args.sends.now c.args.receives.now c.loop-place.place c.in-Some.sent.now c.in-Some.sent.now received.result all
    c.push.new.self.items found.0 c.loop-place-test.true (found.1 c.in-Some.sent.now) c.loop-place.invariant
    (c.in_ok-push.ensures.items ∙ ap (λ (y : Moved). all ++ record { sent = c.in-Some.sent.now; received = y } ∷ []) received.is)

pub returns-in_default : goal.returns-in_default
returns-in_default c =
    c.loop-place.invariant ∙ beside-past c.args.sends.now c.args.receives.now c.loop-place.place c.in_default.ensures.lookup.3
