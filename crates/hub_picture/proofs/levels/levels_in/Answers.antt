use Rattle.std.proofs.Common.{◌≡◌, ◌<◌, ◌≤◌, ◌++◌, ◌∷◌, [], ◌∙◌, ap, arith, get_or, length, refl}
use Rattle.hub_picture.specs.declared.strips.Strip.{Strip}
use Rattle.hub_picture.specs.Levels.{in_row, levels_on}
use Rattle.hub_picture.proofs.OtherPorts.{same-levels}
use Rattle.hub_picture.proofs.Rows.{holds-none, holds-some, levels-hidden, levels-shown, row-hidden, row-shown}
use Rattle.hub_picture.proofs.levels.levels_in.Goals.{then-len-before+in_ok-push, else-len-before}
use Rattle.hub_picture.proofs.levels.levels_in.Goals as goal

pub loop-one-preserved : goal.loop-one-preserved
loop-one-preserved c =
    let w = c.args.window in
    let es = c.args.moves.now.entries.now in
    let all = c.args.moves.now.told.now in
    let so = c.loop-one in
    let strips = so.strips.items in
    let old = so.held.items in
    let new = c.add_levels.new.levels.items in
    let blank : Strip = record { row = 0; port = record { 0 = 0 }; room = 0 } in
    let one : Strip = get_or c.args.made.now so.one-index blank in
    let drawn : Strip = c.in_row-strip.result in
    let strip : Strip = in_row (length strips) one in
    let row-is : c.len-row.result ≡ length strips = omega (arith, c.len-row.ensures, so.strips.ok) in
    let strip-is : drawn ≡ strip = c.in_row-strip.ensures ∙ ap (λ k. in_row k one) row-is in
    let is : new ≡ old ++ levels_on w es all strip =
    c.in_ok-add_levels.ensures ∙ ap (λ ts. old ++ levels_on w es ts drawn) c.on-told.ensures
    ∙ ap (λ l. old ++ l) (same-levels w es all drawn) ∙ ap (λ s. old ++ levels_on w es all s) strip-is in
    let was : c.len-before.result ≡ length old = omega (arith, c.len-before.ensures, so.held.ok) in
    let becomes : c.len.result ≡ length new = omega (arith, c.len.ensures, c.add_levels.new.levels.ok) in
    elim c.if-len-before.branch [
      | then-len-before+in_ok-push b ↦
          let grew : length old < length new = omega (arith, b.if-len-before.true, was, becomes) in
          let pushed = b.in_ok-push.ensures.items ∙ ap (λ s. strips ++ s ∷ []) strip-is in
          rw b.strips-is (record {
            strips = row-shown w es all c.args.made.now so.one-index one blank strips _ _ c.loop-one-test.true refl
                (holds-some w es all strip old new is grew) pushed so.invariant.strips;
            levels = levels-shown w es all strip strips _ old new is pushed so.invariant.levels;
          })
      | else-len-before b ↦
          let still : length new ≤ length old = omega (arith, b.if-len-before.false, was, becomes) in
          rw b.strips-is (record {
            strips = row-hidden w es all c.args.made.now so.one-index one blank strips _ c.loop-one-test.true refl
                (holds-none w es all strip old new is still) so.invariant.strips;
            levels = levels-hidden w es all strip strips old new is still so.invariant.levels;
          })
    ]
