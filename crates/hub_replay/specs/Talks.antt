-- What a device for both directions does to what was heard and said, and what is asked of it.
-- Of a device that doesn't tell its bytes any bytes may have been heard or said.
use Rattle.std.specs.Prelude.{◌≡◌, ℕ, ◌<◌, List, ◌++◌, length, take, Result, MatchResult}
use Rattle.hub_replay.specs.Answers.{Answers, IsWhole}

-- what was heard or said before is so still
abbrev pub Stays : (List ℕ → Type 0) → (List ℕ → Type 0) → Type 0
Stays Old New = (bytes : List ℕ) → Old bytes → New bytes

-- it grew by these bytes
abbrev pub Grows : (List ℕ → Type 0) → (List ℕ → Type 0) → List ℕ → Type 0
Grows Old New more = (bytes : List ℕ) → Old bytes → New (bytes ++ more)

-- the bytes that a read gave were heard; it gives none only at the end, or where it has no room
abbrev pub Gives : {E : Type 0} → (List ℕ → Type 0) → (List ℕ → Type 0) → Type 0 → Result ℕ E → List ℕ → Type 0
Gives Old New Ended r buf = MatchResult r (λ n. Grows Old New (take n buf) × (n ≡ 0 → 0 < length buf → Ended)) (λ _. Stays Old New)

-- the bytes that a write took were said
abbrev pub Takes : {E : Type 0} → (List ℕ → Type 0) → (List ℕ → Type 0) → Result ℕ E → List ℕ → Type 0
Takes Old New r piece = MatchResult r (λ n. Grows Old New (take n piece)) (λ _. Stays Old New)

-- of some bytes that were heard and some that were said this holds
pub record Spoken (Heard Said : List ℕ → Type 0) (Holds : List ℕ → List ℕ → Type 0) : Type 0 where
  pub heard : List ℕ
  pub said : List ℕ
  pub is_heard : Heard heard
  pub is_said : Said said
  pub holds : Holds heard said

-- what was said answers all whole lines that were heard
abbrev pub HasAnswered : (List ℕ → Type 0) → (List ℕ → Type 0) → Type 0
HasAnswered Heard Said = Spoken Heard Said Answers

-- so it does with this piece behind it, or it answers the lines before a faulty one: nothing is missing in the piece
abbrev pub IsAnswer : (List ℕ → Type 0) → (List ℕ → Type 0) → List ℕ → Type 0
IsAnswer Heard Said piece = Spoken Heard Said (λ heard said. IsWhole heard (said ++ piece))
