-- Loops over a list by which another list grows.
use Rattle.std.proofs.Common.{◌≡◌, suc, List, [], ◌∷◌, ◌++◌, map, sym, ap, ◌∙◌, subst, append_assoc, arith}
use Rattle.std.specs.Prelude.{All}
use Rattle.std.proofs.lemmas.List.Elements.{All-push}
use Rattle.std.proofs.lemmas.List.{map-append}

pub map_snoc : {A B C : Type 0} (xs xs' : List A) (ys : List B) (x : A) (y : B) (f : A → C) (g : B → C) → xs' ≡ xs ++ x ∷ []
    → map f xs ≡ map g ys → f x ≡ g y → map f xs' ≡ map g (ys ++ y ∷ [])
map_snoc xs xs' ys x y f g grown same here = ap (map f) grown ∙ map-append f xs (x ∷ []) ∙ (λ i. same i ++ here i ∷ []) ∙ sym (map-append g ys (y ∷ []))

pub all_snoc : {A : Type 0} (xs xs' : List A) (x : A) (P : A → Type 0) → xs' ≡ xs ++ x ∷ [] → All P xs → P x → All P xs'
all_snoc xs xs' x P grown all here = subst (λ zs. All P zs) (sym grown) (All-push P xs x all here)

-- what is done and what is left, one element further
pub one_further : {A : Type 0} (done rest next all : List A) (x : A) → rest ≡ x ∷ next → done ++ rest ≡ all → (done ++ x ∷ []) ++ next ≡ all
one_further done rest next all x is whole = append_assoc done (x ∷ []) next ∙ ap (λ zs. done ++ zs) (sym is) ∙ whole

all_mid : {A : Type 0} (P : A → Type 0) (ys rest : List A) (x : A) → All P (ys ++ x ∷ rest) → P x
all_mid P [] rest x h = h 0 x (omega arith)
all_mid P (y ∷ ys) rest x h = all_mid P ys rest x (λ k d low. h (suc k) d (omega arith))

-- what holds of all holds of the next
pub all_next : {A : Type 0} (done rest next all : List A) (x : A) (P : A → Type 0) → rest ≡ x ∷ next → done ++ rest ≡ all → All P all → P x
all_next done rest next all x P is whole h = all_mid P done next x (subst (λ zs. All P zs) (sym (ap (λ zs. done ++ zs) (sym is) ∙ whole)) h)
