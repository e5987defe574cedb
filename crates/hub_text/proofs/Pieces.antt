-- The pieces between marks.
use Rattle.std.proofs.Common.{◌≡◌, ℕ, ◌==◌, Bool, true, false, cond, List, [], ◌∷◌, refl, ◌∙◌, sym, Option, None, Some}
use Rattle.std.specs.Prelude.{IsTrue, not, is_some}
use Rattle.std.specs.Borrow.{Bor}
use Rattle.hub_base.proofs.Numerals.{pieces-some}
use Rattle.hub_text.specs.Fields.{pieces_left}
use Rattle.hub_base.specs.Lines.{pieces, joins, join_front}

front-nil : (c : ℕ) (ps : List (List ℕ)) → joins [] (join_front c ps) ≡ join_front c ps
front-nil c [] = refl
front-nil c (p ∷ ps) = refl

cond-nil : (t : Bool) (c : ℕ) (ps : List (List ℕ)) → joins [] (cond t ([] ∷ ps) (join_front c ps)) ≡ cond t ([] ∷ ps) (join_front c ps)
cond-nil true c ps = refl
cond-nil false c ps = front-nil c ps

-- nothing before the pieces
pub joins-nil : (mark : ℕ) (bs : List ℕ) → joins [] (pieces mark bs) ≡ pieces mark bs
joins-nil mark [] = refl
joins-nil mark (c ∷ cs) = cond-nil (c == mark) c (pieces mark cs)

unnot : (b : Bool) → false ≡ not b → b ≡ true
unnot true e = refl
unnot false e = cc

nots : (b : Bool) → true ≡ not b → b ≡ true → ⊥
nots true e h = cc
nots false e h = cc

-- no field is left where there is no rest
pub left-done : (mark : ℕ) (o : Option (Bor (List ℕ))) (now : List (List ℕ)) (b : Bool) → pieces_left mark o ≡ now → is_some o ≡ not b
    → (IsTrue b → now ≡ []) × (now ≡ [] → IsTrue b)
left-done mark None now b v e = (λ _. sym v, λ _. unnot b e)
left-done mark (Some rest) now b v e = (λ h. absurd (nots b e h), λ h. absurd (pieces-some mark rest.now (v ∙ h)))
