use Rattle.std.proofs.Common.{◌<◌, arith, length}
use Rattle.hub_story_text.specs.Waits.{counts}
use Rattle.hub_story_text.proofs.Ranks.{count-next-at, one-at-most}
use Rattle.hub_story_text.proofs.waits.calls_of.Goals as goal

pub loop-place-preserved : goal.loop-place-preserved
loop-place-preserved c =
    let es = c.args.entries.now in
    let place = c.loop-place.place in
    let below : place < length es = omega arith in
    let calls = count-next-at (counts c.args.clock) es place c.counts.result c.loop-place.calls below c.counts.ensures c.loop-place.invariant.calls in
    record { calls = rw c.from-calls.ensures calls; few = omega (arith, c.loop-place.invariant.few, c.from-calls.ensures, one-at-most c.counts.result) }
