-- What it means that bytes are the event text of a journal, or at which line they differ from it.
-- What an event text is stands in `Replay`; nothing here says how two texts are compared.
use Rattle.std.specs.Prelude.{◌≡◌, ℕ, ◌+◌, ◌==◌, List, [], ◌∷◌, count_by, if◌then◌else◌}
use Rattle.hub_replay.specs.declared.verifier.Compared.{Compared}
use Rattle.hub_replay.specs.declared.verifier.Compared.TheVariants.{Same, Differs}
use Rattle.hub_replay.specs.Replay.{IsEventText}

-- the longest list with which both begin
abbrev pub common_beginning : List ℕ → List ℕ → List ℕ
common_beginning [] ys = []
common_beginning (x ∷ xs) [] = []
common_beginning (x ∷ xs) (y ∷ ys) = if x == y then x ∷ common_beginning xs ys else []

-- how many newlines stand in it
abbrev pub newlines_in : List ℕ → ℕ
newlines_in xs = count_by (λ c. c == 10) xs

-- the first line that is not the same in both, counted from 1
abbrev pub line_of_difference : List ℕ → List ℕ → ℕ
line_of_difference xs ys = 1 + newlines_in (common_beginning xs ys)

-- the first bytes are a journal's text; the second are not its event text, and first differ from it in this line
pub record DiffersAt (journal events : List ℕ) (line : ℕ) : Type 0 where
  pub text : List ℕ
  pub is : IsEventText journal text
  pub other : ¬ IsEventText journal events
  pub at : line ≡ line_of_difference text events

-- what a comparison says of a journal's bytes and of others
abbrev pub Compares : List ℕ → List ℕ → Compared → Type 0
Compares journal events Same = IsEventText journal events
Compares journal events (Differs line) = DiffersAt journal events line
