use Rattle.std.proofs.Common.{refl}
use Rattle.hub_base.specs.declared.entry.Step.TheVariants.{Exit}
use Rattle.hub_runner.proofs.Workers.{made_ok, left_no_step, left_exited}
use Rattle.hub_runner.proofs.worker.leave.Goals as goal

pub returns-clause-same : goal.returns-clause-same
returns-clause-same g c =
    left_no_step c.args.seat.now c.exit.new.self c.exit.result c.exit.ensures.later
    (made_ok c.args.seat.now c.exit.new.self Exit Exit c.exit.result refl c.pid-pid.ensures.idle.free c.exit.ensures.later c.exit.ensures.ok)
    c.exit.ensures.err

pub returns-clause-left : goal.returns-clause-left
returns-clause-left g c =
    left_exited c.args.seat.now c.exit.new.self c.exit.result c.exit.ensures.later
    (made_ok c.args.seat.now c.exit.new.self Exit Exit c.exit.result refl c.pid-pid.ensures.idle.free c.exit.ensures.later c.exit.ensures.ok)
    c.exit.ensures.err
