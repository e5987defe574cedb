use Rattle.std.proofs.Common.{◌+◌, arith}
use Rattle.hub_story_text.proofs.Levels.{few-below, not-one-below, one-below}
use Rattle.hub_story_text.proofs.fullest.count_until.Goals as goal

pub returns-then-steps-count : goal.returns-then-steps-count
returns-then-steps-count c =
    omega (
      arith,
      c.loop-count.invariant,
      not-one-below 0 (c.args.place + 1) c.loop-count.count 0 c.args.steps.now c.requires.up c.loop-count-test.true
          (omega (arith, c.if-steps-count.true)),
    )

pub loop-count-preserved : goal.loop-count-preserved
loop-count-preserved c =
    one-below 0 (c.args.place + 1) c.loop-count.count 0 c.args.steps.now c.requires.up c.loop-count-test.true (omega (arith, c.if-steps-count.false))

pub returns : goal.returns
returns c =
    omega (arith, c.loop-count.invariant, few-below (c.args.place + 1) c.args.steps.now, c.loop-count-test.false, c.loop-count.auto.count-end)
