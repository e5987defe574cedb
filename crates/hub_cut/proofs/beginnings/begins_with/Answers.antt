use Rattle.std.proofs.Common.{◌≡◌, ◌∙◌, ap, sym, refl, arith, length, take, drop}
use Rattle.std.proofs.lemmas.Option.{slice_get_read}
use Rattle.hub_cut.proofs.Places.{same_next, begins}
use Rattle.hub_cut.proofs.beginnings.begins_with.Goals as goal

pub loop-place-preserved : goal.loop-place-preserved
loop-place-preserved c =
    let n = c.loop-place.place in
    let entry = c.index-checkpoint-place.result in
    same_next n c.args.entries.now c.args.checkpoint.now entry c.loop-place.invariant (c.stands_at.ensures.0 c.if-not-stands_at.false)
    (slice_get_read c.args.checkpoint.now (length c.args.checkpoint.now) n entry refl c.loop-place-test.true c.index-checkpoint-place.is)

pub returns-clause-ok : goal.returns-clause-ok
returns-clause-ok c =
    let entries = c.args.entries.now in
    let checkpoint = c.args.checkpoint.now in
    let whole : c.loop-place.place ≡ length checkpoint = omega (arith, c.loop-place-test.false, c.loop-place.auto.place-end) in (
      drop (length checkpoint) entries,
      begins entries checkpoint (ap (λ n. take n entries) (sym whole) ∙ c.loop-place.invariant ∙ ap (λ n. take n checkpoint) whole),
    )
