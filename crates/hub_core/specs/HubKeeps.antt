-- What every hub keeps: its journal is legal, its machine follows the journal, and there is room in
-- the journal for its places and for the exit of each process.
use Rattle.std.specs.Prelude.{◌≡◌, ◌≤◌, ◌+◌, ℕ, Bool, true, None, length, if◌then◌else◌}
use Rattle.hub_base.specs.Entry.{Entry, Step}
use Rattle.hub_base.specs.Steps.{refusal}
use Rattle.hub_base.specs.Head.{IsHead, AreOf}
use Rattle.hub_base.specs.Reading.{is_exit}
use Rattle.hub_base.specs.Runs.{kept, state}
use Rattle.hub_base.specs.Text.{steps_of}
use Rattle.hub_core.specs.declared.hub.HubOf.TheInside.{Inside}
use Rattle.hub_core.specs.Follows.{Follows}
use Rattle.hub_core.specs.HubView.{HubInMemory, ShortInMemory, Grows, HasRoom, HasSpare, IsLimit, state_of}

-- what contracts see of a hub
abbrev pub shown : {F : Type 0} → Inside F → HubInMemory
shown h =
    record {
      hub = record { terms = h.terms; journal = h.entries.items; places = h.places };
      capacity = h.entries.capacity;
    }

-- the same, and how many entries are kept short
abbrev pub shown_short : {F : Type 0} → Inside F → ShortInMemory
shown_short h = record { memory = shown h; short = h.entries.short }

-- an exit is not counted
abbrev pub count_after : Step → ℕ → ℕ
count_after step count = if is_exit step then count else count + 1

pub record HubKeeps {F : Type 0} (h : Inside F) : Type 0 where
  pub head : IsHead h.terms.head
  pub limit : IsLimit h.terms.limit
  -- each entry was admitted
  pub legal : kept h.terms.head h.entries.items ≡ h.entries.items
  -- and is one that the edition has
  pub fits : AreOf h.terms.head.edition h.entries.items
  pub follows : Follows h.terms.head h.entries.items h.machine
  -- the entries that are no exits are counted
  pub count : h.count ≡ steps_of h.entries.items
  pub within : h.count ≤ h.terms.limit
  -- the entries, the places, and an exit of each process that has not exited
  pub room :
      length h.entries.items + h.places + h.terms.head.procs
      ≤ h.entries.capacity + length (state h.terms.head h.entries.items).gone

-- where all is to be written out, nothing is kept short
abbrev pub InForm : Bool → ℕ → Type 0
InForm whole short = whole ≡ true → short ≡ 0

-- ---- a step is admitted

-- the entry is not refused, and where the journal may have to grow there is room for it
pub record Takes (m : HubInMemory) (e : Entry) : Type 0 where
  pub room : HasRoom m.hub e
  pub admitted : refusal (state_of m.hub) e.pid ≡ None
  pub spare : Grows e.step m.hub.places → HasSpare m
