use Rattle.std.proofs.Common.{false, true, sym, ◌∙◌}
use Rattle.hub_runner.specs.Working.{asked_of}
use Rattle.hub_runner.proofs.Workers.{leads_end, leads_again, left_stalled, left_done, still_onward, still_later, stopped_in_step}
use Rattle.hub_runner.proofs.worker.take_step.Goals as goal

pub returns-then-ends_script-clause-ok : goal.returns-then-ends_script-clause-ok
returns-then-ends_script-clause-ok g c = λ words rest j chosen.
    leads_end (asked_of c.args.seat.now) (asked_of c.loop.seat) (asked_of c.ask.new.seat) words c.args.turn.step.now rest j c.args.turn.word
    c.in_ok-event.event false
    (c.loop.invariant.3 words rest j chosen) c.in_ok-event.ensures.ok chosen
    (left_stalled c.args.turn.step.now rest c.in_ok-event.event (sym c.ends_script.ensures ∙ c.if-ends_script.true))

pub returns-then-not-repeats-clause-ok : goal.returns-then-not-repeats-clause-ok
returns-then-not-repeats-clause-ok g c = λ words rest j chosen.
    leads_end (asked_of c.args.seat.now) (asked_of c.loop.seat) (asked_of c.ask.new.seat) words c.args.turn.step.now rest j c.args.turn.word
    c.in_ok-event.event true
    (c.loop.invariant.3 words rest j chosen) c.in_ok-event.ensures.ok chosen
    (left_done c.args.turn.step.now rest c.in_ok-event.event
    (sym c.ends_script.ensures ∙ c.if-ends_script.false) (sym c.repeats.ensures ∙ c.if-not-repeats.true))

pub returns-then-ends_script-clause-later : goal.returns-then-ends_script-clause-later
returns-then-ends_script-clause-later g c = still_later c.args.seat.now c.loop.seat c.ask.new.seat c.loop.invariant.2 c.ask.ensures.later

pub returns-then-not-repeats-clause-later : goal.returns-then-not-repeats-clause-later
returns-then-not-repeats-clause-later g c = still_later c.args.seat.now c.loop.seat c.ask.new.seat c.loop.invariant.2 c.ask.ensures.later

pub returns-in_err-event-clause-later : goal.returns-in_err-event-clause-later
returns-in_err-event-clause-later g c = still_later c.args.seat.now c.loop.seat c.ask.new.seat c.loop.invariant.2 c.ask.ensures.later

pub loop-preserved : goal.loop-preserved
loop-preserved g c = (
  tt,
  tt,
  still_onward c.args.seat.now c.loop.seat c.ask.new.seat c.loop.invariant.2 c.in_ok-event.ensures.later,
  λ words rest j chosen.
      leads_again (asked_of c.args.seat.now) (asked_of c.loop.seat) (asked_of c.ask.new.seat) words c.args.turn.step.now rest j c.args.turn.word
      c.in_ok-event.event
      (c.loop.invariant.3 words rest j chosen) c.in_ok-event.ensures.ok chosen (sym c.ends_script.ensures ∙ c.if-ends_script.false)
      (sym c.repeats.ensures ∙ c.if-not-repeats.false),
)

pub returns-in_err-event-clause-err : goal.returns-in_err-event-clause-err
returns-in_err-event-clause-err g c =
    stopped_in_step (asked_of c.args.seat.now) c.loop.seat c.ask.new.seat c.args.turn.step.now c.args.turn.word c.from_residual.result
    c.in_err-event.field-0.0 c.from_residual.ensures.1 c.loop.invariant.3 c.ask.ensures.later c.in_err-event.ensures.err
