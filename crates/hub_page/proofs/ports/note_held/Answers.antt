use Rattle.hub_story.specs.Levels.{count_at, level_of}
use Rattle.hub_page.specs.Ports.{moves_on}
use Rattle.hub_page.proofs.Sums.{held-next}
use Rattle.hub_page.proofs.ports.note_held.Goals as goal

pub loop-told-preserved : goal.loop-told-preserved
loop-told-preserved c = record {
  most = λ p few.
      held-next (moves_on c.args.entries.now p) c.args.came.now c.loop-told.told-index c.told-item.result (count_at c.args.most.now.items p)
      (level_of c.args.levels.now p) _ _ c.loop-told-test.true c.told-item.is (c.loop-told.invariant.most p few)
      (c.note_told.ensures.most p few);
  whole = c.note_told.ensures.whole;
}
