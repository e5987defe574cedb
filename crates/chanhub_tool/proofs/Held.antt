-- Files that hold texts.
use Rattle.std.proofs.Common.{◌≡◌, ◌∙◌, ℕ, ◌+◌, ◌<◌, List, [], ◌∷◌, ◌++◌, Option, Some, refl, ap, subst, sym, zero, suc, arith, length, take, map, add-one}
use Rattle.std.specs.Prelude.{IfSome, slice_get}
use Rattle.std.proofs.lemmas.List.{length-map}
use Rattle.std.proofs.lemmas.Option.{slice_get_within}

-- what the file at a place holds
held : {A B : Type 0} (f : A → Option B) (i : ℕ) (xs : List A) (ys : List B) (x : A) → map f xs ≡ map Some ys → slice_get xs i ≡ Some x
    → (y : B) × (slice_get ys i ≡ Some y) × (f x ≡ Some y)
held f i [] ys x all there = absurd (cc)
held f i (z ∷ zs) [] x all there = absurd (cc)
held f zero (z ∷ zs) (y ∷ ys) x all there =
    let here : z ≡ x = cc in
    let gives : f z ≡ Some y = cc in
    (y, refl, ap f (sym here) ∙ gives)
held f (suc i) (z ∷ zs) (y ∷ ys) x all there = let rest : map f zs ≡ map Some ys = cc in held f i zs ys x rest there

taken : {A : Type 0} (i : ℕ) (ys : List A) (y : A) → slice_get ys i ≡ Some y → take (suc i) ys ≡ take i ys ++ y ∷ []
taken i [] y there = absurd (cc)
taken zero (z ∷ zs) y there = let here : z ≡ y = cc in ap (λ x. x ∷ []) here
taken (suc i) (z ∷ zs) y there = ap (λ xs. z ∷ xs) (taken i zs y there)

-- the file at a place gives this text, which stands behind those before
record Gives {A B : Type 0} (f : A → Option B) (i : ℕ) (x : A) (ys : List B) : Type 0 where
  pub text : B
  pub gives : f x ≡ Some text
  pub next : take (i + 1) ys ≡ take i ys ++ text ∷ []
  pub within : i < length ys

gives_next : {A B : Type 0} (f : A → Option B) (i : ℕ) (xs : List A) (ys : List B) (x : A) → map f xs ≡ map Some ys → slice_get xs i ≡ Some x
    → Gives f i x ys
gives_next f i xs ys x all there =
    let at = held f i xs ys x all there in
    record {
      text = at.0;
      gives = at.2;
      next = ap (λ k. take k ys) (add-one i) ∙ taken i ys at.0 at.1;
      within = slice_get_within ys i at.0 at.1;
    }

-- the bytes that a read of the file at a place gave stand behind the texts before
pub record Reads (i : ℕ) (texts : List (List ℕ)) (bytes : List ℕ) : Type 0 where
  pub next : take (i + 1) texts ≡ take i texts ++ bytes ∷ []
  pub within : i < length texts

pub reads_next : {A : Type 0} (f : A → Option (List ℕ)) (i : ℕ) (files : List A) (texts : List (List ℕ)) (x : A) (read bytes : List ℕ)
    → map f files ≡ map Some texts → slice_get files i ≡ Some x → IfSome (f x) (λ text. read ≡ text) → bytes ≡ read → Reads i texts bytes
reads_next f i files texts x read bytes all there known same =
    let at = gives_next f i files texts x all there in
    let came : read ≡ at.text = subst (λ (o : Option (List ℕ)). IfSome o (λ text. read ≡ text)) at.gives known in
    record {
      next = at.next ∙ ap (λ (t : List ℕ). take i texts ++ t ∷ []) (sym (same ∙ came));
      within = at.within;
    }

-- there are as many texts as files
pub as_many : {A B : Type 0} (f : A → Option B) (xs : List A) (ys : List B) → map f xs ≡ map Some ys → length xs ≡ length ys
as_many f xs ys all = omega (arith, length-map xs f, length-map ys (λ y. Some y), ap length all)
