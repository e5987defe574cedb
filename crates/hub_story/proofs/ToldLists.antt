-- Events of which little is kept.
use Rattle.std.proofs.Common.{◌≡◌, ◌∙◌, ◌++◌, ◌∷◌, [], ℕ, List, length, ap, sym, refl}
use Rattle.std.specs.List.{All}
use Rattle.std.specs.Prelude.{slice_get, unwrap_or}
use Rattle.std.proofs.lemmas.List.{get_or_append_left, map-append}
use Rattle.std.proofs.lemmas.List.Elements.{All-head, All-tail}
use Rattle.std.proofs.lemmas.Option.{unwrap_or-slice_get}
use Rattle.std.proofs.Math.Seq.{get_or-append_seam}
use Rattle.hub_base.specs.declared.event.What.{What}
use Rattle.hub_base.specs.declared.event.What.TheVariants as what
use Rattle.hub_story.specs.declared.told.Told.{Told}
use Rattle.hub_story.specs.declared.told_list.ShortTold.{ShortTold}
use Rattle.hub_story.specs.declared.told_list.ShortWhat.{ShortWhat}
use Rattle.hub_story.specs.declared.told_list.ShortWhat.TheVariants as short
use Rattle.hub_story.specs.ToldLists.{StandsBelow, told_again, told_kept, what_of}

-- where more stands behind what there was, it is the same
what-same : (whats more : List What) (s : ShortWhat) → StandsBelow (length whats) s → what_of (whats ++ more) s ≡ what_of whats s
what-same whats more (short.Sent case) low = refl
what-same whats more short.Stalled low = refl
what-same whats more short.Cancelled low = refl
what-same whats more (short.Whole place) low =
    unwrap_or-slice_get (whats ++ more) place what.Stalled ∙ get_or_append_left whats more what.Stalled place low
    ∙ sym (unwrap_or-slice_get whats place what.Stalled)

abbrev pub Stands : ℕ → ShortTold → Type 0
Stands n s = StandsBelow n s.what

kept-same : (whats more : List What) (kept : List ShortTold) → All (Stands (length whats)) kept → told_kept kept (whats ++ more) ≡ told_kept kept whats
kept-same whats more [] stand = refl
kept-same whats more (s ∷ kept) stand =
    let first = what-same whats more s.what (All-head (Stands (length whats)) s kept stand) in
    let others = kept-same whats more kept (All-tail (Stands (length whats)) s kept stand) in
    λ i. record { asked = s.asked; by = s.by; event = record { pid = s.pid; what = first i } } ∷ others i

-- one more, of which what it says stands behind that of the others
pub one-whole : (kept : List ShortTold) (whats : List What) (t : Told) {more : List ShortTold} {grown : List What} {place : ℕ} →
    All (Stands (length whats)) kept → place ≡ length whats → grown ≡ whats ++ t.event.what ∷ [] →
    more ≡ kept ++ record { asked = t.asked; by = t.by; pid = t.event.pid; what = short.Whole place } ∷ [] →
    told_kept more grown ≡ told_kept kept whats ++ t ∷ []
one-whole kept whats t {more} {grown} {place} stand behind grown_is more_is =
    let now : List What = whats ++ t.event.what ∷ [] in
    let read : unwrap_or (slice_get now place) what.Stalled ≡ t.event.what =
    ap (λ (n : ℕ). unwrap_or (slice_get now n) what.Stalled) behind ∙ unwrap_or-slice_get now (length whats) what.Stalled
    ∙ get_or-append_seam whats t.event.what [] what.Stalled in
    let last : List Told → What → List Told = λ l w. l ++ record { asked = t.asked; by = t.by; event = record { pid = t.event.pid; what = w } } ∷ [] in
    (λ i. told_kept (more_is i) (grown_is i))
    ∙ map-append (told_again now) kept (record { asked = t.asked; by = t.by; pid = t.event.pid; what = short.Whole place } ∷ [])
    ∙ ap (λ l. last l (what_of now (short.Whole place))) (kept-same whats (t.event.what ∷ []) kept stand)
    ∙ ap (last (told_kept kept whats)) read

-- one more that is kept short
pub one-short : (kept : List ShortTold) (whats : List What) (t : Told) (w : ShortWhat) {more : List ShortTold} → what_of whats w ≡ t.event.what →
    more ≡ kept ++ record { asked = t.asked; by = t.by; pid = t.event.pid; what = w } ∷ [] → told_kept more whats ≡ told_kept kept whats ++ t ∷ []
one-short kept whats t w says more_is =
    ap (λ l. told_kept l whats) more_is
    ∙ map-append (told_again whats) kept (record { asked = t.asked; by = t.by; pid = t.event.pid; what = w } ∷ [])
    ∙ ap (λ v. told_kept kept whats ++ record { asked = t.asked; by = t.by; event = record { pid = t.event.pid; what = v } } ∷ []) says
