-- What is kept of all that is told, after one event more.
use Rattle.std.proofs.Common.{◌≡◌, ◌++◌, Bool, List, [], ◌∷◌, filter, ap, ◌∙◌, sym}
use Rattle.std.proofs.lemmas.List.Elements.{filter-append}
use Rattle.hub_story.specs.declared.told.Told.{Told}
use Rattle.hub_story.specs.Outlines.{kept}

pub kept-more : (p : Told → Bool) (before : List Told) (t : Told) (wanted : Bool) (old new : List Told) → old ≡ filter p before → wanted ≡ p t →
    new ≡ old ++ kept wanted t → new ≡ filter p (before ++ t ∷ [])
kept-more p before t wanted old new was is made =
    made ∙ ap (λ l. l ++ kept wanted t) was ∙ ap (λ b. filter p before ++ kept b t) is ∙ sym (filter-append p before (t ∷ []))
