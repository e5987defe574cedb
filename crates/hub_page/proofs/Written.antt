-- Texts that are written one after the other.
use Rattle.std.proofs.Common.{List, Option, [], ap, append-nil, append_assoc, refl}
use Rattle.std.proofs.Common.{subst, sym, ℕ, ◌++◌, ◌∙◌, ◌≡◌}
use Rattle.std.specs.Io.KnownBytes.{Appends}
use Rattle.std.proofs.KnownBytes.{Appends-nil, Appends-trans}
use Rattle.hub_replay.specs.Devices.{AppendsBeginning}

-- ---- what was written
-- one text more was written
pub one-more : (old now new : Option (List ℕ)) (written text block all : List ℕ) → Appends old now written → Appends now new text → text ≡ block →
    all ≡ written ++ block → Appends old new all
one-more old now new written text block all before more is whole =
    subst (λ (l : List ℕ). Appends old new l) (sym (whole ∙ ap (λ l. written ++ l) (sym is))) (Appends-trans old now new written text before more)

-- ---- a beginning
-- a beginning of what is left was written
pub begun : (old now new : Option (List ℕ)) (written left block behind text : List ℕ) → Appends old now written → AppendsBeginning now new block →
    left ≡ block ++ behind → text ≡ written ++ left → AppendsBeginning old new text
begun old now new written left block behind text before (front, back, split, more) is whole = (
  written ++ front,
  back ++ behind,
  whole ∙ ap (λ l. written ++ l) (is ∙ ap (λ l. l ++ behind) split ∙ append_assoc front back behind)
      ∙ sym (append_assoc written front (back ++ behind)),
  Appends-trans _ _ _ _ _ before more,
)

-- a beginning of the second of two texts was written behind the first
pub then-begun : (old now new : Option (List ℕ)) (first second : List ℕ) → Appends old now first → AppendsBeginning now new second →
    AppendsBeginning old new (first ++ second)
then-begun old now new first second before begins =
    begun old now new first second second [] (first ++ second) before begins (sym (append-nil second)) refl

-- a beginning of a text is one of what it begins
pub first-begun : (old new : Option (List ℕ)) (first second : List ℕ) → AppendsBeginning old new first → AppendsBeginning old new (first ++ second)
first-begun old new first second (front, back, split, more) =
    (front, back ++ second, ap (λ l. l ++ second) split ∙ append_assoc front back second, more)

-- nothing was written of a text
pub none-begun : (old : Option (List ℕ)) (text : List ℕ) → AppendsBeginning old old text
none-begun old text = ([], text, refl, Appends-nil old)

-- ---- three texts, one behind the other
module _ (first second third : List ℕ) where
  pub three-written : (old one two new : Option (List ℕ)) → Appends old one first → Appends one two second → Appends two new third →
      Appends old new (first ++ second ++ third)
  three-written old one two new here there last =
      Appends-trans old two new (first ++ second) third (Appends-trans old one two first second here there) last

  pub second-begun : (old one new : Option (List ℕ)) → Appends old one first → AppendsBeginning one new second →
      AppendsBeginning old new (first ++ second ++ third)
  second-begun old one new here begins = first-begun old new (first ++ second) third (then-begun old one new first second here begins)

  pub third-begun : (old one two new : Option (List ℕ)) → Appends old one first → Appends one two second → AppendsBeginning two new third →
      AppendsBeginning old new (first ++ second ++ third)
  third-begun old one two new here there begins =
      then-begun old two new (first ++ second) third (Appends-trans old one two first second here there) begins
