-- How long a journal can be: each process exits at most once, and once more for each start of it, and no other process has
-- an entry. So a journal has at most as many entries more than steps (entries that are no exits) as there are processes and
-- starts. Only the third edition has starts.
use Rattle.std.specs.Prelude.{◌≤◌, ◌<◌, ◌+◌, ◌==◌, ◌&&◌, ◌≡◌, ℕ, Bool, true, false, List, [], length, filter}
use Rattle.std.specs.List.{AllByRecursion}
use Rattle.hub_base.specs.Entry.{Entry, Step}
use Rattle.hub_base.specs.declared.entry.Step.TheVariants.{Start}
use Rattle.hub_base.specs.declared.head.Head.{Head}
use Rattle.hub_base.specs.Head.{AreOf, has_lives}
use Rattle.hub_base.specs.Reading.{is_exit}
use Rattle.hub_base.specs.Runs.{kept}
use Rattle.hub_base.specs.Text.{steps_of}

-- the exits of process q
abbrev pub exits_of : ℕ → List Entry → List Entry
exits_of q es = filter (λ e. is_exit e.step && (e.pid.0 == q)) es

-- the step is a start of process q
abbrev pub is_start_of : ℕ → Step → Bool
is_start_of q (Start r) = r.0 == q
is_start_of q step = false

-- the starts of process q
abbrev pub starts_of : ℕ → List Entry → List Entry
starts_of q es = filter (λ e. is_start_of q e.step) es

-- the step is a start
abbrev pub is_start : Step → Bool
is_start (Start q) = true
is_start step = false

-- the starts of all processes
abbrev pub all_starts : List Entry → List Entry
all_starts es = filter (λ e. is_start e.step) es

pub record LimitsLaw (h : Head) (es : List Entry) : Type 0 where
  pub once : (q : ℕ) → length (exits_of q (kept h es)) ≤ 1 + length (starts_of q (kept h es))
  -- admitted entries are of processes that there are
  pub below : AllByRecursion (λ e. e.pid.0 < h.procs) (kept h es)
  pub length : length (kept h es) ≤ steps_of (kept h es) + h.procs + length (all_starts (kept h es))
  -- only an edition with starts has any
  pub none : has_lives h.edition ≡ false → AreOf h.edition es → all_starts (kept h es) ≡ []
