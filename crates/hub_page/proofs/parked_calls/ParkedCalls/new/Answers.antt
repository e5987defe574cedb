use Rattle.std.proofs.Common.{◌≡◌, ◌∙◌, ap, refl, List, None, Option, Some, ℕ}
use Rattle.std.specs.Prelude.{slice_index_or}
use Rattle.hub_page.proofs.Sums.{all-same}
use Rattle.hub_page.proofs.parked_calls.ParkedCalls.new.Goals as goal

-- what is no call's clone is no call
none-only : (P : Option ℕ → Type 0) → ((place : ℕ) → P (Some place) → ⊥) → (y : Option ℕ) → P y → y ≡ None
none-only P f None p = refl
none-only P f (Some place) p = absurd (f place p)

pub returns-clause-none : goal.returns-clause-none
returns-clause-none c lane few =
    ap (λ (l : List (Option ℕ)). slice_index_or l lane None) (c.in_ok-vec.ensures.items_if_clones_equal (none-only _ (λ m h. h))) ∙ all-same None _ lane
