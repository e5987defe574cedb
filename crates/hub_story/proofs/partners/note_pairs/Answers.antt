use Rattle.std.proofs.Common.{◌≤◌, ◌<◌, ◌+◌, ◌∙◌, ap, sym, arith, length, drop, get_or, min}
use Rattle.std.specs.List.{fold}
use Rattle.hub_story.specs.Partners.{paired, with_way}
use Rattle.hub_story.proofs.Pairs.{pairs-next, pairs-end}
use Rattle.hub_story.proofs.partners.note_pairs.Goals as goal

pub loop-place-preserved : goal.loop-place-preserved
loop-place-preserved c =
    let i = c.loop-place.place in
    let xs = c.args.sent.now in
    let ys = c.args.received.now in
    let hx : i < length xs = omega (arith, c.loop-place-test.true, c.min-place-end.ensures) in
    let hy : i < length ys = omega (arith, c.loop-place-test.true, c.min-place-end.ensures) in
    ap (λ t. fold with_way t (paired (drop (i + 1) xs) (drop (i + 1) ys)))
    (c.note_way-in-loop-place.ensures ∙ ap (λ t. with_way t (get_or ys i 0, get_or xs i 0)) c.note_way.ensures)
    ∙ sym (ap (fold with_way c.loop-place.table.items) (pairs-next xs ys i 0 hx hy)) ∙ c.loop-place.invariant

pub returns : goal.returns
returns c =
    let past : min (length c.args.sent.now) (length c.args.received.now) ≤ c.loop-place.place =
    omega (arith, c.loop-place-test.false, c.min-place-end.ensures) in
    sym (ap (fold with_way c.loop-place.table.items) (pairs-end c.args.sent.now c.args.received.now c.loop-place.place past)) ∙ c.loop-place.invariant
