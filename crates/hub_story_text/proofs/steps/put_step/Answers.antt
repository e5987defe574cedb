use Rattle.std.proofs.Common.{◌∙◌, ◌++◌, ap, sym}
use Rattle.std.proofs.lemmas.Option.{get_or_from_slice_get}
use Rattle.std.proofs.lemmas.Result.{on_ok_weaker}
use Rattle.hub_story_text.specs.Explained.{entries_of, told_of}
use Rattle.hub_story_text.specs.StoryText.{step_text}
use Rattle.hub_story_text.proofs.Chains.{one-more}
use Rattle.hub_story_text.proofs.StepTexts.{step-hidden, step-is, step-shown}
use Rattle.hub_story_text.proofs.steps.put_step.Goals as goal

pub returns-then-not-has : goal.returns-then-not-has
returns-then-not-has c =
    let e = c.args.explained.now in
    step-hidden e.paint c.args.window e.clock (entries_of e) (told_of e) c.args.line.now.place c.args.out.now.items c.requires.line.within
    (sym c.has.ensures ∙ c.if-not-has.true)

pub returns : goal.returns
returns c =
    let e = c.args.explained.now in
    let es = entries_of e in
    let told = told_of e in
    let place = c.args.line.now.place in
    let entry = c.args.line.now.entry.now in
    let came = c.args.line.now.came.now in
    let moves = c.args.moves.now in
    let out = c.args.out.now.items in
    let found = get_or_from_slice_get es place entry entry c.requires.entry in
    on_ok_weaker c.put_stalled.result
    (λ stalled. step-shown e.paint c.args.window e.clock es told place entry out c.put_stalled.new.out.items c.requires.line.within
    (sym c.has.ensures ∙ c.if-not-has.false)
    (one-more out c.put_painted_line.new.out.items c.put_stalled.new.out.items _ _ c.in_ok-put_painted_line.ensures stalled
    ∙ ap (λ l. out ++ l) (step-is e.paint e.clock es told place entry came moves c.requires.came c.requires.last)
    ∙ ap (λ entry. out ++ step_text e.paint e.clock es told place entry) (sym found)))
    c.put_stalled.ensures
