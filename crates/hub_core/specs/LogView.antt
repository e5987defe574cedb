-- What contracts see of a journal whose newest entries may be kept short, and how such are written out.
use Rattle.std.specs.Prelude.{◌≡◌, ◌≤◌, ◌<◌, ◌+◌, ◌^◌, ℕ, false, List, [], ◌∷◌, length, take, drop, if◌then◌else◌}
use Rattle.hub_base.specs.declared.case.Case.{Case}
use Rattle.hub_base.specs.declared.case.Case.TheVariants.{Send, Recv}
use Rattle.hub_base.specs.Entry.{Entry, Step}
use Rattle.hub_base.specs.declared.entry.Step.TheVariants as step
use Rattle.hub_base.specs.declared.limits.TheConstants.{CASE_PLACES, MOST_PROCS}
use Rattle.hub_base.specs.Lines.{by, call}
use Rattle.hub_base.specs.Reading.{is_exit}
use Rattle.hub_base.specs.Value.{value_of}
use Rattle.hub_base.specs.Values.{cases_or}
use Rattle.hub_core.specs.declared.brief.Brief.{Brief}
use Rattle.hub_core.specs.declared.brief.Brief.TheVariants as brief

-- a journal
pub record LogView : Type 0 where
  -- its entries, in order
  pub items : List Entry
  -- how many it can hold before it has to grow
  pub capacity : ℕ
  -- how many of the newest are kept short
  pub short : ℕ
  -- how many can be before that has to grow
  pub short_room : ℕ
  -- how many cases these have, and how many they can have before that has to grow
  pub cases : ℕ
  pub case_room : ℕ
  -- how many of these cases send bytes, and how many such they can have before that has to grow
  pub beside : ℕ
  pub beside_room : ℕ

-- ---- one entry

-- the cases of an entry, none where it is no call
abbrev pub cases_of : Entry → List Case
cases_of e = cases_or e.step []

-- how many places it asks for among those that are kept short: behind any step there is one for the exit of each process
abbrev pub places_asked : Step → ℕ
places_asked s = if is_exit s then 1 else MOST_PROCS + 1

-- ---- what is kept of an entry

-- how many cases are not kept with it
abbrev pub case_count : Brief → ℕ
case_count (brief.Call pid default count first word) = count
case_count other = 0

-- where these begin among those of all entries
abbrev pub first_of : Brief → ℕ
first_of (brief.Call pid default count first word) = first
first_of other = 0

-- they begin there
abbrev pub BeginsAt : ℕ → Brief → Type 0
BeginsAt n (brief.Call pid default count first word) = first ≡ n
BeginsAt n other = Unit {0}

-- these of the cases of all entries
abbrev pub own_of : Brief → List Case → List Case
own_of b all = take (case_count b) (drop (first_of b) all)

-- the entry again, with these cases where they are not kept with it
abbrev pub entry_of : Brief → List Case → Entry
entry_of (brief.Send pid p number) cases = by pid.0 (call (Send p (value_of number) ∷ []) false 0)
entry_of (brief.Recv pid p) cases = by pid.0 (call (Recv p ∷ []) false 0)
entry_of (brief.Call pid default count first word) cases = by pid.0 (call cases default word)
entry_of (brief.Make pid cap) cases = by pid.0 (step.Make cap)
entry_of (brief.Close pid p) cases = by pid.0 (step.Close p)
entry_of (brief.Exit pid) cases = by pid.0 step.Exit
entry_of (brief.Cancel pid q) cases = by pid.0 (step.Cancel q)
entry_of (brief.Start pid q) cases = by pid.0 (step.Start q)
entry_of (brief.Reopen pid p cap) cases = by pid.0 (step.Reopen p cap)

-- the cases of the entry, where they are not kept with it
abbrev pub cases_beside : Entry → Brief → List Case
cases_beside e (brief.Call pid default count first word) = cases_of e
cases_beside e other = []

-- this is kept of the entry; its cases, where they are not kept with it, begin there
pub record IsBriefOf (e : Entry) (first : ℕ) (b : Brief) : Type 0 where
  pub again : entry_of b (cases_beside e b) ≡ e
  pub count : case_count b ≡ length (cases_beside e b)
  pub begins : BeginsAt first b

-- this is all of the entry
abbrev pub IsWhole : Entry → Brief → Type 0
IsWhole e b = (first : ℕ) → IsBriefOf e first b

-- there is room for it there, and for its cases
pub record FitsShort (log : LogView) (e : Entry) : Type 0 where
  pub places : log.short + places_asked e.step ≤ log.short_room
  pub cases : log.cases + length (cases_of e) ≤ log.case_room
  pub beside : log.beside + length (cases_of e) ≤ log.beside_room
  pub few : log.cases < 2 ^ 32

-- there is room for all entries of another, kept as they are there
pub record HasRoomFor (log other : LogView) : Type 0 where
  pub whole : other.capacity ≤ log.capacity
  pub short : other.short ≤ log.short_room
  pub cases : other.cases ≤ log.case_room
  pub beside : other.beside ≤ log.beside_room

-- ---- entries in order

-- they are written out one after the other, and each takes the first of the cases that are left
unfoldable pub written : List Brief → List Case → List Entry
written [] cases = []
written (b ∷ bs) cases = entry_of b (take (case_count b) cases) ∷ written bs (drop (case_count b) cases)

-- the cases of each stand behind those of the ones before it; those of the first, behind so many
unfoldable pub StandFrom : ℕ → List Brief → Type 0
StandFrom n [] = Unit {0}
StandFrom n (b ∷ bs) = BeginsAt n b × StandFrom (n + case_count b) bs

-- these are all their cases, and none has more than an entry has places for
unfoldable pub AreBriefs : List Brief → List Case → Type 0
AreBriefs [] cases = cases ≡ []
AreBriefs (b ∷ bs) cases =
    (case_count b ≤ CASE_PLACES) × (case_count b ≤ length cases) × AreBriefs bs (drop (case_count b) cases)
