use Rattle.hub_scenario.specs.ChoiceWords.{choice_word}
use Rattle.hub_runner.specs.Working.{asked_of}
use Rattle.hub_runner.proofs.Workers.{followed, still_onward, handed_on, stopped_leaves, stopped_at_exit}
use Rattle.hub_runner.proofs.worker.follow.Goals as goal

pub returns-in_ok-leave-in-Ok-clause-ok : goal.returns-in_ok-leave-in-Ok-clause-ok
returns-in_ok-leave-in-Ok-clause-ok g c =
    followed (asked_of c.args.seat.now) (asked_of c.follow_steps.new.seat) (asked_of c.leave.new.seat)
    (choice_word c.args.words.seed) c.args.script.now c.in-Ok.ensures.ok.0 c.in_ok-leave-in-Ok.field-0
    c.in-Ok.ensures.ok.1 c.in_ok-leave-in-Ok.ensures.ok

pub returns-in_ok-leave-in-Ok-clause-onward : goal.returns-in_ok-leave-in-Ok-clause-onward
returns-in_ok-leave-in-Ok-clause-onward g c =
    still_onward c.args.seat.now c.follow_steps.new.seat c.leave.new.seat c.follow_steps.ensures.onward c.leave.ensures.later

pub returns-in_err-leave-in-Ok-clause-onward : goal.returns-in_err-leave-in-Ok-clause-onward
returns-in_err-leave-in-Ok-clause-onward g c =
    still_onward c.args.seat.now c.follow_steps.new.seat c.leave.new.seat c.follow_steps.ensures.onward c.leave.ensures.later

pub returns-in-Err-clause-onward : goal.returns-in-Err-clause-onward
returns-in-Err-clause-onward g c =
    still_onward c.args.seat.now c.follow_steps.new.seat c.leave_early.new.seat c.follow_steps.ensures.onward c.leave_early.ensures.later

pub returns-in_err-leave-in-Ok-clause-err : goal.returns-in_err-leave-in-Ok-clause-err
returns-in_err-leave-in-Ok-clause-err g c =
    let f = c.in_err-leave-in-Ok.field-0.0 in
    handed_on _ c.from_residual.result f c.from_residual.ensures.1
    (stopped_at_exit (asked_of c.args.seat.now) c.follow_steps.new.seat c.leave.new.seat (choice_word c.args.words.seed) c.args.script.now
    c.in-Ok.ensures.ok.0 f c.in-Ok.ensures.ok.1 c.leave.ensures.later c.in_err-leave-in-Ok.ensures.err)

pub returns-in-Err-clause-err : goal.returns-in-Err-clause-err
returns-in-Err-clause-err g c =
    stopped_leaves (asked_of c.args.seat.now) c.follow_steps.new.seat c.leave_early.new.seat (choice_word c.args.words.seed) c.args.script.now
    c.in-Err.fault c.in-Err.ensures.err c.leave_early.ensures.later c.leave_early.ensures.same c.leave_early.ensures.left
