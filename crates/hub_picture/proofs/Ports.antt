-- The arrows of all ports, and the strips of those that were made.
use Rattle.std.proofs.Common.{◌≡◌, ◌≤◌, ◌+◌, ◌∙◌, ℕ, Bool, true, false, cond, List, [], ◌∷◌, None, filter, refl, ap, sym, arith}
use Rattle.hub_base.specs.declared.event.What.{What}
use Rattle.hub_base.specs.declared.event.What.TheVariants as what
use Rattle.hub_base.specs.Entry.{Entry}
use Rattle.hub_story.specs.declared.told.Told.{Told}
use Rattle.hub_story.specs.declared.window.Window.{Window}
use Rattle.hub_picture.specs.declared.arrows.Arrow.{Arrow}
use Rattle.hub_picture.specs.Drawings.{arrows_to, is_made, makes_port}
use Rattle.hub_picture.specs.Levels.{before, made_at, strips_from}

-- those of the ports so far are those of all, once there are no more
pub all-drawn : (w : Window) (es : List Entry) (told : List Told) (n ports : ℕ) (arrows : List Arrow) → n ≤ ports → ports ≤ n →
    arrows ≡ arrows_to n w es told → arrows ≡ arrows_to ports w es told
all-drawn w es told n ports arrows few many so =
    let all : n ≡ ports = omega (arith, few, many) in
    so ∙ ap (λ k. arrows_to k w es told) all

-- what does not tell that a port was made has no strip
no-strip : (es : List Entry) (all : List Told) (row place : ℕ) (w : What) → is_made w ≡ false → made_at es all row place w ≡ None
no-strip es all row place (what.Made p) other = absurd cc
no-strip es all row place what.Default other = refl
no-strip es all row place (what.Fired i o) other = refl
no-strip es all row place what.Done other = refl
no-strip es all row place what.Parked other = refl
no-strip es all row place what.Stalled other = refl
no-strip es all row place (what.Fault f) other = refl
no-strip es all row place what.Cancelled other = refl

pub made-strips : (es : List Entry) (all : List Told) (row : ℕ) (ts : List Told) → strips_from es all row (filter makes_port ts) ≡ strips_from es all row ts
made-strips es all row [] = refl
made-strips es all row (t ∷ ts) = by (makes_port t) refl (made-strips es all (row + 1) ts) (made-strips es all row ts)
  where
    made : List Told
    made = filter makes_port ts

    by : (b : Bool) → b ≡ makes_port t → strips_from es all (row + 1) made ≡ strips_from es all (row + 1) ts →
        strips_from es all row made ≡ strips_from es all row ts → strips_from es all row (cond b (t ∷ made) made) ≡ strips_from es all row (t ∷ ts)
    by true is below same = rw (below, same) refl
    by false is below same =
        same ∙ ap (λ o. before o (strips_from es all (row + 1) ts) (strips_from es all row ts)) (sym (no-strip es all row t.asked t.event.what (sym is)))
