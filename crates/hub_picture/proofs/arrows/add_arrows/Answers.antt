use Rattle.std.proofs.Common.{◌<◌, ◌≤◌, ◌∙◌, ap, sym, arith, length, None, Some}
use Rattle.std.proofs.lemmas.Option.{get_or_from_slice_get}
use Rattle.hub_base.specs.Values.{got_on, sent_on}
use Rattle.hub_story.specs.Passing.{moved_by}
use Rattle.hub_picture.proofs.ArrowsLeft.{is-none, is-some, moved-next, moved-none, next-arrow, no-receive-left, same-arrows}
use Rattle.hub_picture.proofs.arrows.add_arrows.Goals.{then-is_moved+in-Some+in_ok-add_arrow, else-is_moved}
use Rattle.hub_picture.proofs.arrows.add_arrows.Goals as goal

pub loop-place-preserved : goal.loop-place-preserved
loop-place-preserved c =
    let es = c.args.entries.now in
    let ts = c.args.told.now in
    let p = c.args.port in
    let so = c.loop-place in
    let here = c.at-received.result.now in
    let below : so.place < length ts = omega (arith, c.loop-place-test.true, c.len-place-end.ensures) in
    elim c.if-is_moved.branch [
      | then-is_moved+in-Some+in_ok-add_arrow w ↦
          let received = is-some (moved_by (got_on p) es here) (sym c.is_moved.ensures ∙ w.if-is_moved.true) in
          let next = rw w.in-Some.is at w.next_sent.ensures.found in
          let at = w.at.ensures ∙ get_or_from_slice_get ts w.in-Some.sent next.told w.at.result.now next.at in
          rw (w.arrows-is, w.from-is)
          (next-arrow c.args.window p so.arrows.items _ _ next.sent received.0 _ _ _ _
          (w.in_ok-add_arrow.ensures next.sent received.0 (ap (moved_by (sent_on p) es) at ∙ next.is) received.1) next.next
          (moved-next (got_on p) es ts so.place here (Some received.0) below (sym received.1 ∙ ap (moved_by (got_on p) es) c.at-received.ensures))
          so.invariant)
      | else-is_moved w ↦
          let none = is-none (moved_by (got_on p) es here) (sym c.is_moved.ensures ∙ w.if-is_moved.false) in
          rw (w.arrows-is, w.from-is)
          (same-arrows c.args.window p so.arrows.items _ _ _ _
          (moved-next (got_on p) es ts so.place here None below (sym none ∙ ap (moved_by (got_on p) es) c.at-received.ensures)) so.invariant)
    ]

pub returns : goal.returns
returns c =
    let past : length c.args.told.now ≤ c.loop-place.place = omega (arith, c.loop-place-test.false, c.len-place-end.ensures) in
    no-receive-left c.args.window c.args.port c.loop-place.arrows.items _ _ _
    (moved-none (got_on c.args.port) c.args.entries.now c.args.told.now c.loop-place.place past)
    c.loop-place.invariant
