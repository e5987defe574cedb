use Rattle.std.proofs.Common.{◌++◌, take}
use Rattle.hub_base.proofs.Growing.{noted-next}
use Rattle.hub_story.specs.Levels.{AreLevels}
use Rattle.hub_story.proofs.levels.Levels.note_all.Goals as goal

pub loop-told-preserved : goal.loop-told-preserved
loop-told-preserved c =
    let told = c.args.told.now in
    let i = c.loop-told.told-index in
    record {
      counted = λ before was.
          noted-next (λ l. AreLevels c.args.entries.now l c.note.new.self) before told i c.told-item.result c.loop-told-test.true c.told-item.is
          (c.in_ok-note.ensures.counted (before ++ take i told) (c.loop-told.invariant.counted before was));
      whole = c.note.ensures.whole;
    }
