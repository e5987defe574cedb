use Rattle.std.proofs.Common.{arith}
use Rattle.hub_story_text.proofs.Ranks.{rank-next, rank-here, rank-last}
use Rattle.hub_story_text.proofs.waits.rank_of.Goals as goal

pub loop-rank-preserved : goal.loop-rank-preserved
loop-rank-preserved c =
    rank-next c.args.ranked.now c.loop-rank.rank _ c.args.wait c.loop-rank-test.true c.if-other-wait.false c.loop-rank.invariant

pub returns-then-other-wait-clause-ranked : goal.returns-then-other-wait-clause-ranked
returns-then-other-wait-clause-ranked c =
    rank-here c.args.ranked.now c.loop-rank.rank _ c.args.wait c.loop-rank-test.true c.if-other-wait.true c.loop-rank.invariant

pub returns-clause-ranked : goal.returns-clause-ranked
returns-clause-ranked c =
    rank-last c.args.ranked.now c.loop-rank.rank c.args.wait (omega (arith, c.loop-rank.auto.rank-end, c.loop-rank-test.false)) c.loop-rank.invariant
