-- Who is outside, of one process more.
use Rattle.std.proofs.Common.{◌≡◌, ◌+◌, ◌&&◌, ◌++◌, ◌∙◌, ℕ, Bool, cond, not, List, [], ◌∷◌, add-one, ap, sym}
use Rattle.std.specs.List.{list_any}
use Rattle.hub_base.specs.Entry.{Entry}
use Rattle.hub_story.specs.declared.outside.Outsider.{Outsider}
use Rattle.hub_story.specs.declared.told.Told.{Told}
use Rattle.hub_story.specs.Leavers.{is_told_to, leavers}
use Rattle.hub_story.specs.Outside.{outside, outsider}

pub outside-more : (es : List Entry) (told waiting left : List Told) (n : ℕ) (b : Bool) (old new : List Outsider) → left ≡ leavers es told →
    b ≡ (not (list_any (is_told_to n) left) && not (list_any (is_told_to n) waiting)) → old ≡ outside es told waiting n →
    new ≡ old ++ cond b (outsider es n ∷ []) [] → new ≡ outside es told waiting (n + 1)
outside-more es told waiting left n b old new so is was made =
    made ∙ ap (λ l. l ++ cond b (outsider es n ∷ []) []) was
    ∙ ap (λ c. outside es told waiting n ++ cond c (outsider es n ∷ []) [])
    (is ∙ ap (λ l. not (list_any (is_told_to n) l) && not (list_any (is_told_to n) waiting)) so)
    ∙ ap (outside es told waiting) (sym (add-one n))
