-- Cases that are kept in 16 bytes each.
use Rattle.std.proofs.Common.{◌≡◌, ◌∙◌, ◌++◌, ◌∷◌, [], ℕ, List, length, ap, sym, refl}
use Rattle.std.specs.List.{All}
use Rattle.std.specs.Prelude.{slice_get, unwrap_or}
use Rattle.std.proofs.lemmas.List.{get_or_append_left, map-append}
use Rattle.std.proofs.lemmas.List.Elements.{All-head, All-tail}
use Rattle.std.proofs.lemmas.Option.{unwrap_or-slice_get}
use Rattle.std.proofs.Math.Seq.{get_or-append_seam}
use Rattle.hub_base.specs.declared.case.Case.TheVariants.{Send}
use Rattle.hub_base.specs.declared.value.Port.{Port}
use Rattle.hub_base.specs.declared.value.Value.{Value}
use Rattle.hub_base.specs.Value.{value_of}
use Rattle.hub_core.specs.declared.case_list.ShortCase.{ShortCase}
use Rattle.hub_core.specs.declared.case_list.ShortCase.TheVariants as short
use Rattle.hub_core.specs.CaseListView.{StandsBelow, case_of, cases_kept}

-- where more values stand behind those that there were, it is the same case
case_same : (values more : List Value) (s : ShortCase) → StandsBelow (length values) s → case_of (values ++ more) s ≡ case_of values s
case_same values more (short.Recv p) low = refl
case_same values more (short.Number p number) low = refl
case_same values more (short.Bytes p place) low =
    ap (λ (v : Value). Send p v) (
    unwrap_or-slice_get (values ++ more) place (value_of 0)
    ∙ get_or_append_left values more (value_of 0) place low
    ∙ sym (unwrap_or-slice_get values place (value_of 0)))

cases_same : (values more : List Value) (kept : List ShortCase) → All (StandsBelow (length values)) kept
    → cases_kept kept (values ++ more) ≡ cases_kept kept values
cases_same values more [] stand = refl
cases_same values more (s ∷ kept) stand =
    let first = case_same values more s (All-head (StandsBelow (length values)) s kept stand) in
    let others = cases_same values more kept (All-tail (StandsBelow (length values)) s kept stand) in
    λ i. first i ∷ others i

-- a case more, whose bytes stand behind those of the others
pub one_with_bytes : (kept : List ShortCase) (values : List Value) {more : List ShortCase} {grown : List Value} {place : ℕ} (p : Port) (v : Value)
    → All (StandsBelow (length values)) kept → place ≡ length values → grown ≡ values ++ v ∷ [] → more ≡ kept ++ short.Bytes p place ∷ []
    → cases_kept more grown ≡ cases_kept kept values ++ Send p v ∷ []
one_with_bytes kept values {more} {grown} {place} p v stand behind grown_is more_is =
    let read : unwrap_or (slice_get (values ++ v ∷ []) place) (value_of 0) ≡ v =
    ap (λ (n : ℕ). unwrap_or (slice_get (values ++ v ∷ []) n) (value_of 0)) behind
    ∙ unwrap_or-slice_get (values ++ v ∷ []) (length values) (value_of 0)
    ∙ get_or-append_seam values v [] (value_of 0) in
    (λ i. cases_kept (more_is i) (grown_is i))
    ∙ map-append (case_of (values ++ v ∷ [])) kept (short.Bytes p place ∷ [])
    ∙ (λ i. cases_same values (v ∷ []) kept stand i ++ Send p (read i) ∷ [])
