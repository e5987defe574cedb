-- Who closed a port, or opened it again, is told by the closes and reopens alone.
use Rattle.std.proofs.Common.{◌≡◌, ◌∙◌, List, [], ◌∷◌, Bool, true, false, cond, Option, None, Some, refl, ap, sym, filter}
use Rattle.std.specs.List.{fold}
use Rattle.hub_base.specs.declared.value.Port.{Port}
use Rattle.hub_base.specs.Entry.{Entry}
use Rattle.hub_story.specs.declared.told.Told.{Told}
use Rattle.hub_story.specs.Lives.{closed_port, is_turn, reopened_port}
use Rattle.hub_story_text.specs.declared.closers.Turns.{Turns}
use Rattle.hub_story_text.specs.Closers.{no_turns, turns_on, with_turn}

-- a fold goes by what is kept, if the rest changes nothing
fold-kept : {A B : Type 0} (f : B → A → B) (keep : A → Bool) → ((b : B) (x : A) → keep x ≡ false → f b x ≡ b) → (b : B) (xs : List A) →
    fold f b (filter keep xs) ≡ fold f b xs
fold-kept f keep idle b [] = refl
fold-kept {A} {B} f keep idle b (x ∷ xs) = by (keep x) refl (λ c. fold-kept f keep idle c xs)
  where
    by : (kept : Bool) → kept ≡ keep x → ((c : B) → fold f c (filter keep xs) ≡ fold f c xs) →
        fold f b (cond kept (x ∷ filter keep xs) (filter keep xs)) ≡ fold f (f b x) xs
    by true is rest = rest (f b x)
    by false is rest = rest b ∙ ap (λ (c : B). fold f c xs) (sym (idle b x (sym is)))

no-turn : (es : List Entry) (p : Port) (turns : Turns) (t : Told) → is_turn es t ≡ false → with_turn es p turns t ≡ turns
no-turn es p turns t not = by (closed_port es t) (reopened_port es t) refl refl
  where
    by : (c r : Option Port) → c ≡ closed_port es t → r ≡ reopened_port es t → with_turn es p turns t ≡ turns
    by None None no-close no-reopen = rw (← no-close, ← no-reopen) refl
    by (Some q) r is other = absurd (cc)
    by None (Some q) other is = absurd (cc)

pub among-turns : (es : List Entry) (p : Port) (ts : List Told) → turns_on es (filter (is_turn es) ts) p ≡ turns_on es ts p
among-turns es p ts = fold-kept (with_turn es p) (is_turn es) (no-turn es p) no_turns ts
