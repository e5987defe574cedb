use Rattle.std.proofs.Common.{[], ◌∙◌, ap, sym}
use Rattle.hub_base.proofs.Growing.{kept-none, kept-some}
use Rattle.hub_story.specs.Passing.{moved_by}
use Rattle.hub_story.specs.Sides.{value_on}
use Rattle.hub_story.proofs.passing.moves.Goals as goal
use Rattle.hub_story.proofs.passing.moves.Goals.{in-Some+in_ok-push, in_default}

pub loop-told-preserved : goal.loop-told-preserved
loop-told-preserved c =
    let told = c.args.told.now in
    let i = c.loop-told.told-index in
    let here = c.told-item.result in
    let reads = moved_by (value_on c.args.side c.args.port) c.args.entries.now in
    let same = ap reads (sym c.told-item.is) ∙ sym c.moved_by.ensures in
    elim c.match-moved_by.branch [
      | in-Some+in_ok-push w ↦
          rw (w.moves-is, w.in_ok-push.ensures.items)
          (kept-some reads told i here _ [] _ c.loop-told-test.true (same ∙ w.in-Some.is) c.loop-told.invariant)
      | in_default w ↦
          rw w.moves-is (kept-none reads told i here [] _ c.loop-told-test.true (same ∙ w.in_default.is) c.loop-told.invariant)
    ]
