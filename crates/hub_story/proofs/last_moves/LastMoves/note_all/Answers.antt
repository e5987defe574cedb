use Rattle.std.proofs.Common.{◌++◌, take}
use Rattle.hub_base.proofs.Growing.{noted-next}
use Rattle.hub_story.specs.LastMoves.{AreLast}
use Rattle.hub_story.proofs.last_moves.LastMoves.note_all.Goals as goal

pub loop-told-preserved : goal.loop-told-preserved
loop-told-preserved c =
    let told = c.args.told.now in
    let i = c.loop-told.told-index in
    record {
      last = λ before was.
          noted-next (λ l. AreLast c.args.entries.now l c.note.new.self) before told i c.told-item.result c.loop-told-test.true c.told-item.is
          (c.in_ok-note.ensures.last (before ++ take i told) (c.loop-told.invariant.last before was));
      whole = c.note.ensures.whole;
    }
