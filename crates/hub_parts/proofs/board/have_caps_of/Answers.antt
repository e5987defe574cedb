use Rattle.std.proofs.Common.{◌≡◌, ◌∙◌, Some, arith, length, refl, slice_get, sym}
use Rattle.std.proofs.lemmas.Option.{slice_get_read}
use Rattle.hub_parts.proofs.Copies.{cap-there, caps-shown}
use Rattle.hub_parts.proofs.board.have_caps_of.Goals as goal

pub returns-then-cap : goal.returns-then-cap
returns-then-cap c =
    let cs = c.args.channels.now in
    let ds = c.args.others.now in
    let x = c.index-channels-place.result in
    let y = c.index-others-place.result in
    let i = c.loop-place.place in
    let mine : slice_get cs i ≡ Some x = slice_get_read cs (length cs) i x refl (omega arith) c.index-channels-place.is in
    let theirs : slice_get ds i ≡ Some y = slice_get_read ds (length ds) i y refl (omega arith) c.index-others-place.is in (
      λ yes. (let no : ⊥ = cc in absurd no),
      λ same. absurd (c.if-cap.true
          (c.cap.ensures ∙ cap-there cs ds i x y (sym (caps-shown cs) ∙ same ∙ caps-shown ds) mine theirs ∙ sym c.cap-in-loop-place.ensures)),
    )
