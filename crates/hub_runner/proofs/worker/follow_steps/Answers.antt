use Rattle.std.proofs.Common.{rules, List, true, false, refl, ◌∙◌, subst, arith}
use Rattle.std.proofs.lemmas.List.{drop_all}
use Rattle.hub_scenario.specs.declared.script.ScriptStep.{ScriptStep}
use Rattle.hub_scenario.specs.ChoiceWords.{choice_word}
use Rattle.hub_runner.specs.Scripts.{taken_after}
use Rattle.hub_runner.specs.Working.{asked_of, Leads}
use Rattle.hub_runner.proofs.Workers.{leads_next, still_onward, taken_low, at_place, handed_on, stopped_next}
use Rattle.hub_runner.proofs.worker.follow_steps.Goals as goal

pub returns-then-not-branch-clause-ok : goal.returns-then-not-branch-clause-ok
returns-then-not-branch-clause-ok g c =
    let s : ScriptStep = c.step-item.result in (
      taken_after s c.loop-step.words.drawn,
      leads_next _ _ _ _ _ c.args.script.now c.loop-step.step-index _ _ _ s _ false c.loop-step.invariant.1
          (at_place c.args.script.now c.loop-step.step-index s (omega arith) (search rules))
          c.loop-step.invariant.3 c.word_for-word.ensures.chosen c.in_ok-take_step.ensures.ok c.if-not-branch.true refl,
    )

pub loop-step-preserved : goal.loop-step-preserved
loop-step-preserved g c =
    let i = c.loop-step.step-index in
    let s : ScriptStep = c.step-item.result in (
      taken_low s c.loop-step.words.drawn i c.word_for-word.new.words.drawn c.word_for-word.ensures.taken c.loop-step.invariant.0,
      c.word_for-word.ensures.seed ∙ c.loop-step.invariant.1,
      still_onward c.args.seat.now c.loop-step.seat c.take_step.new.seat c.loop-step.invariant.2 c.in_ok-take_step.ensures.later,
      leads_next _ _ _ _ _ c.args.script.now i _ _ _ s _ true c.loop-step.invariant.1 (at_place c.args.script.now i s (omega arith) (search rules))
          c.loop-step.invariant.3 c.word_for-word.ensures.chosen c.in_ok-take_step.ensures.ok c.if-not-branch.false c.word_for-word.ensures.taken,
    )

pub returns-then-not-branch-clause-onward : goal.returns-then-not-branch-clause-onward
returns-then-not-branch-clause-onward g c =
    still_onward c.args.seat.now c.loop-step.seat c.take_step.new.seat c.loop-step.invariant.2 c.in_ok-take_step.ensures.later

pub returns-in_err-take_step-clause-onward : goal.returns-in_err-take_step-clause-onward
returns-in_err-take_step-clause-onward g c =
    still_onward c.args.seat.now c.loop-step.seat c.take_step.new.seat c.loop-step.invariant.2 c.in_err-take_step.ensures.later

pub returns-clause-onward : goal.returns-clause-onward
returns-clause-onward g c = c.loop-step.invariant.2

pub returns-clause-ok : goal.returns-clause-ok
returns-clause-ok g c =
    let none = drop_all c.loop-step.step-index c.args.script.now c.loop-step-test.false in (
      c.loop-step.words.drawn,
      subst (λ (rest : List ScriptStep). Leads (asked_of c.args.seat.now) (asked_of c.loop-step.seat)
          (choice_word c.args.words.now.seed) c.args.script.now 0 rest c.loop-step.words.drawn) none c.loop-step.invariant.3,
    )

pub returns-in_err-take_step-clause-err : goal.returns-in_err-take_step-clause-err
returns-in_err-take_step-clause-err g c =
    let i = c.loop-step.step-index in
    let s : ScriptStep = c.step-item.result in
    let f = c.in_err-take_step.field-0.0 in
    handed_on _ c.from_residual.result f c.from_residual.ensures.1
    (stopped_next (asked_of c.args.seat.now) (asked_of c.loop-step.seat) c.take_step.new.seat _ _ c.args.script.now i _ _ s f
    c.loop-step.invariant.1 (at_place c.args.script.now i s (omega arith) (search rules)) c.loop-step.invariant.3
    c.word_for-word.ensures.chosen c.in_err-take_step.ensures.err)
