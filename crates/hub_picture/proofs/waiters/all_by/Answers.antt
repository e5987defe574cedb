use Rattle.std.proofs.Common.{◌≡◌, ◌≢◌, ◌==◌, ℕ, true, false, rules}
use Rattle.hub_picture.specs.Waiters.{is_by}
use Rattle.hub_picture.proofs.Kept.{kept, left}
use Rattle.hub_picture.proofs.waiters.all_by.Goals.{then-told-step+in_ok-push, else-told-step}
use Rattle.hub_picture.proofs.waiters.all_by.Goals as goal

is-one : (a b : ℕ) → a ≡ b → (a == b) ≡ true
is-one a b e = search rules

is-other : (a b : ℕ) → a ≢ b → (a == b) ≡ false
is-other a b e = search rules

pub loop-told-preserved : goal.loop-told-preserved
loop-told-preserved c =
    elim c.if-told-step.branch [
      | then-told-step+in_ok-push w ↦
          let so : is_by c.args.step c.told-item.result ≡ true = is-one c.told-item.result.by c.args.step w.if-told-step.true in
          rw w.all-is
          (kept (is_by c.args.step) c.args.told.now c.loop-told.told-index c.told-item.result c.loop-told.all.items _ c.loop-told-test.true c.told-item.is
          c.loop-told.invariant so w.in_ok-push.ensures.items)
      | else-told-step w ↦
          let so : is_by c.args.step c.told-item.result ≡ false = is-other c.told-item.result.by c.args.step w.if-told-step.false in
          rw w.all-is
          (left (is_by c.args.step) c.args.told.now c.loop-told.told-index c.told-item.result c.loop-told.all.items c.loop-told-test.true c.told-item.is
          c.loop-told.invariant so)
    ]
