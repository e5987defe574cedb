use Rattle.std.proofs.Common.{◌≡◌, ◌∙◌, ◌++◌, ap, sym, refl, arith, length}
use Rattle.hub_story_text.specs.EndsText.{ends_other, with_ended}
use Rattle.hub_story_text.proofs.StepLines.{ends-one, ends-none}
use Rattle.hub_story_text.proofs.ends.put_ends.Goals as goal
use Rattle.hub_story_text.proofs.ends.put_ends.Goals.{then-ends_other+in_ok-put_ended, else-ends_other}

pub loop-told-preserved : goal.loop-told-preserved
loop-told-preserved c =
    let before = c.args.out.now.items in
    let at : length before ≡ c.len-begin.result = omega (arith, c.len-begin.ensures, c.args.out.now.ok) in
    let here = c.told-item in
    let ends = ends_other c.args.clock c.args.entries.now c.args.ending c.args.place in
    let same = ap ends (sym here.is) ∙ sym c.ends_other.ensures in
    elim c.if-ends_other.branch [
      | then-ends_other+in_ok-put_ended w ↦
          rw w.out-is (w.in_ok-put_ended.ensures before _ at c.loop-told.invariant
          ∙ ap (λ l. before ++ l) (ends-one c.args.ending ends c.args.came.now c.loop-told.told-index here.result _ _
          c.loop-told-test.true (same ∙ w.if-ends_other.true) refl (ap (with_ended c.args.ending _) here.is)))
      | else-ends_other w ↦
          rw w.out-is (c.loop-told.invariant
          ∙ ap (λ l. before ++ l) (ends-none c.args.ending ends c.args.came.now c.loop-told.told-index here.result
          _ c.loop-told-test.true (same ∙ w.if-ends_other.false) refl))
    ]
