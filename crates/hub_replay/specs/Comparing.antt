-- How far given bytes agree with a text of which a part is known.
use Rattle.std.specs.Prelude.{◌≡◌, ◌≢◌, ℕ, Bool, true, false, List, [], ◌∷◌, ◌++◌, take, drop}
use Rattle.hub_replay.specs.declared.verifier.Compared.{Compared}
use Rattle.hub_replay.specs.declared.verifier.Compared.TheVariants.{Same, Differs}
use Rattle.hub_replay.specs.Verify.{line_of_difference}

-- the first goes on where the second ends or goes on with another byte
abbrev pub Parts : List ℕ → List ℕ → Type 0
Parts [] ys = ⊥
Parts (x ∷ xs) [] = Unit {0}
Parts (x ∷ xs) (y ∷ ys) = x ≢ y

-- so many bytes of the text begin the given ones. Behind them the two part; or no more of the text is known
pub record Agrees (text bytes : List ℕ) (agreed : ℕ) (parted : Bool) : Type 0 where
  pub rest : List ℕ
  pub common : text ≡ take agreed bytes ++ rest
  pub whole : parted ≡ false → rest ≡ []
  pub apart : parted ≡ true → Parts rest (drop agreed bytes)

-- what is said of a whole text and given bytes
abbrev pub Tells : List ℕ → List ℕ → Compared → Type 0
Tells text bytes Same = bytes ≡ text
Tells text bytes (Differs line) = (bytes ≢ text) × (line ≡ line_of_difference text bytes)
