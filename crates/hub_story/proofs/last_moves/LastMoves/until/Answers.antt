use Rattle.std.proofs.Common.{◌+◌, take}
use Rattle.hub_story.specs.Levels.{told_by}
use Rattle.hub_story.proofs.Movers.{by-then, not-by-then}
use Rattle.hub_story.proofs.last_moves.LastMoves.until.Goals.{then-told-step+in_ok-note, else-told-step}
use Rattle.hub_story.proofs.last_moves.LastMoves.until.Goals as goal

pub loop-told-init : goal.loop-told-init
loop-told-init c = record {
  last = c.in_ok-last.ensures.none c.args.entries.now;
  whole = c.in_ok-last.ensures.whole;
}

pub loop-told-preserved : goal.loop-told-preserved
loop-told-preserved c =
    let es = c.args.entries.now in
    let all = c.args.told.now in
    let i = c.loop-told.told-index in
    let step = c.args.step in
    let here = c.told-item in
    elim c.if-told-step.branch [
      | then-told-step+in_ok-note w ↦
          rw w.last-is
          (record {
            last =
                by-then es all i step here.result w.note.new.self c.loop-told-test.true here.is w.if-told-step.true
                (w.in_ok-note.ensures.last (told_by (step + 1) (take i all)) c.loop-told.invariant.last);
            whole = w.note.ensures.whole;
          })
      | else-told-step w ↦
          rw w.last-is
          (record {
            last = not-by-then es all i step here.result c.loop-told.last c.loop-told-test.true here.is w.if-told-step.false c.loop-told.invariant.last;
            whole = c.loop-told.invariant.whole;
          })
    ]
