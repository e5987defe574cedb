use Rattle.std.proofs.Common.{rules, arith}
use Rattle.hub_runner.proofs.Workers.{still_onward, handed_on}
use Rattle.hub_runner.proofs.Runs.{made_more}
use Rattle.hub_runner.proofs.Outcomes.{makes_stop}
use Rattle.hub_runner.proofs.runner.make_ports.Goals as goal

pub loop-cap-preserved : goal.loop-cap-preserved
loop-cap-preserved g c = (
  still_onward c.args.seat.now c.loop-cap.seat c.make.new.self c.loop-cap.invariant.0 c.make.ensures.later,
  made_more c.loop-cap.seat c.make.new.self c.args.ports.now c.loop-cap.cap-index _ c.in_ok-make.field-0 c.pid-pid.ensures.idle.free
      c.make.ensures.later c.in_ok-make.ensures.ok (omega arith) (search rules) c.loop-cap.invariant.1,
)

pub returns-in_err-make-clause-onward : goal.returns-in_err-make-clause-onward
returns-in_err-make-clause-onward g c =
    still_onward c.args.seat.now c.loop-cap.seat c.make.new.self c.loop-cap.invariant.0 c.make.ensures.later

pub returns-clause-onward : goal.returns-clause-onward
returns-clause-onward g c = c.loop-cap.invariant.0

pub returns-in_err-make-clause-err : goal.returns-in_err-make-clause-err
returns-in_err-make-clause-err g c =
    let f = c.in_err-make.field-0.0 in
    handed_on _ c.from_residual.result f c.from_residual.ensures.1
    (makes_stop c.loop-cap.seat c.make.new.self c.args.ports.now c.loop-cap.cap-index _ f c.make.ensures.later
    c.in_err-make.ensures.err (omega arith) (search rules) c.loop-cap.invariant.1)
