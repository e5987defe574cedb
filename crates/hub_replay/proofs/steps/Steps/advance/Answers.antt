use Rattle.std.proofs.Common.{ℕ, List, arith}
use Rattle.std.proofs.lemmas.Grind.{common_steps}
use Rattle.hub_replay.proofs.Replayed.{more-replayed, none-replayed, replayed-more, rest-more-replayed, rest-replayed}
use Rattle.hub_replay.specs.Replay.{HasNone}
use Rattle.hub_replay.specs.Replayed.{Replayed}
use Rattle.hub_replay.proofs.Verified.{same-fault}
use Rattle.hub_replay.proofs.steps.Steps.advance.Goals as goal

pub loop-lines-init : goal.loop-lines-init
loop-lines-init c = record {
  more = λ bytes text so. none-replayed so;
  less = omega arith;
}

pub returns-then-text-enough-clause-ok : goal.returns-then-text-enough-clause-ok
returns-then-text-enough-clause-ok c = λ bytes text so.
    let before = c.loop-lines.invariant.more bytes text so in
    more-replayed before (replayed-more c.step.new.self.reader c.step.new.self.machine c.if-branch.true
    (c.in_ok-step.ensures.ok bytes _ before.replayed))

pub loop-lines-preserved : goal.loop-lines-preserved
loop-lines-preserved c = record {
  more = λ bytes text so.
      let before = c.loop-lines.invariant.more bytes text so in
      more-replayed before (replayed-more c.step.new.self.reader c.step.new.self.machine c.if-branch.true
      (c.in_ok-step.ensures.ok bytes _ before.replayed));
  less = let fewer = c.in_ok-step.ensures.less in grind (arith, common_steps, fewer, c.if-branch.true, c.loop-lines.invariant.less);
}

pub returns-clause-ok : goal.returns-clause-ok
returns-clause-ok c = λ bytes text so.
    let before = c.loop-lines.invariant.more bytes text so in
    rest-more-replayed before (rest-replayed c.step.new.self.reader c.step.new.self.machine c.if-branch.false
    (c.in_ok-step.ensures.ok bytes _ before.replayed))

pub returns-in_err-step-clause-err : goal.returns-in_err-step-clause-err
returns-in_err-step-clause-err c =
    same-fault (λ fault. (bytes text : List ℕ) → Replayed bytes text c.args.self.now.reader c.args.self.now.machine → HasNone bytes fault) _ _
    c.from_residual.ensures.1
    (λ bytes text so. c.in_err-step.ensures.err bytes _ (c.loop-lines.invariant.more bytes text so).replayed)
