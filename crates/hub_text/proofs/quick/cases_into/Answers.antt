use Rattle.std.proofs.Common.{◌≡◌, ◌<◌, arith, take}
use Rattle.std.proofs.lemmas.Grind.{common_steps}
use Rattle.arrayvec.specs.ArrayVec.{array_vec_len}
use Rattle.hub_text.proofs.QuickLines.{cases-over}
use Rattle.hub_text.proofs.quick.cases_into.Goals as goal
use Rattle.hub_text.proofs.quick.cases_into.Goals.{then-count-len+else-is_full, else-count-len}

pub loop-end-preserved : goal.loop-end-preserved
loop-end-preserved c =
    let loop = c.loop-end in
    let now = c.if-count-len.cases in
    let kept : take loop.count now.items ≡ take loop.count loop.cases.items = elim c.if-count-len.branch [
      | then-count-len+else-is_full w ↦ grind (arith, common_steps, w.cases-is, w.push.ensures.items)
      | else-count-len w ↦ grind (arith, common_steps, w.cases-is)
    ] in
    let room : loop.count < array_vec_len now = elim c.if-count-len.branch [
      | then-count-len+else-is_full w ↦ grind (arith, common_steps, w.cases-is, w.push.ensures.items)
      | else-count-len w ↦ grind (arith, common_steps, w.cases-is)
    ] in
    record {
      stand = cases-over c.args.edition c.args.bytes.now c.args.start loop.cases.items now.items c.deref_mut.result.now loop.count loop.end
          c.case_into.new.case c.in_ok-end.end kept room c.deref_mut.ensures.value loop.invariant.stand c.in_ok-end.ensures;
      few = grind (arith, common_steps, c.deref_mut.ensures.value);
    }
