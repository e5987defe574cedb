use Rattle.hub_page.specs.Block.{count_of}
use Rattle.hub_page.specs.Lanes.{is_trouble_in}
use Rattle.hub_page.proofs.Sums.{count-next}
use Rattle.hub_page.proofs.lanes.count_troubles.Goals as goal

pub loop-told-preserved : goal.loop-told-preserved
loop-told-preserved c = record {
  counted = λ lane few.
      count-next (is_trouble_in c.args.procs lane) c.args.came.now c.loop-told.told-index c.told-item.result
      (count_of c.args.troubles.now.items lane) _ _ c.loop-told-test.true c.told-item.is (c.loop-told.invariant.counted lane few)
      (c.in_ok-count_trouble.ensures.counted lane few);
  whole = c.count_trouble.ensures.whole;
}
