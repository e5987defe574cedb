use Rattle.std.proofs.Common.{◌<◌, ◌∙◌, ◌++◌, ◌∷◌, [], ap, sym, arith, length}
use Rattle.hub_picture.specs.Drawings.{part_in}
use Rattle.hub_picture.proofs.Askings.{hidden-next, none-behind, shown-next}
use Rattle.hub_picture.proofs.asked.asked_in.Goals.{then-shows_at+in_ok-push, else-shows_at}
use Rattle.hub_picture.proofs.asked.asked_in.Goals as goal

pub loop-number-preserved : goal.loop-number-preserved
loop-number-preserved c =
    let es = c.args.entries.now in
    let s = c.args.story.now in
    let clock = c.args.clock in
    let i = c.loop-number.number in
    let all = c.loop-number.all.items in
    let below : i < length es = omega (arith, c.loop-number-test.true, c.len.ensures, c.min-number-end.ensures) in
    let test = c.shows_at.ensures in
    elim c.if-shows_at.branch [
      | then-shows_at+in_ok-push w ↦
          rw w.all-is
          (shown-next c.args.shown c.args.window clock s es i w.entry.result all w.push.new.self.items _ below (sym w.if-shows_at.true ∙ test)
          w.entry.ensures c.loop-number.invariant
          (w.in_ok-push.ensures.items
          ∙ ap (λ e. all ++ record { place = i; entry = e; ended = w.end-ended.result; part = w.part_in.result } ∷ []) w.to_owned.ensures
          ∙ ap (λ p. all ++ record { place = i; entry = w.entry.result; ended = w.end-ended.result; part = p } ∷ []) w.part_in.ensures
          ∙ ap (λ o. all ++ record { place = i; entry = w.entry.result; ended = o; part = part_in clock es o } ∷ []) w.end-ended.ensures))
      | else-shows_at w ↦
          rw w.all-is (hidden-next c.args.shown c.args.window clock s es i all _ below (sym w.if-shows_at.false ∙ test) c.loop-number.invariant)
    ]

pub returns : goal.returns
returns c =
    let es = c.args.entries.now in
    none-behind c.args.shown c.args.window c.args.clock c.args.story.now es c.loop-number.number c.loop-number.all.items _
    (omega (arith, c.len.ensures, c.min-number-end.ensures, c.loop-number-test.false)) c.loop-number.invariant
