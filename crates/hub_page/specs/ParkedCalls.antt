-- A table of the calls that wait.
use Rattle.std.specs.Prelude.{◌≡◌, ◌≤◌, ◌+◌, ℕ, List, length, Option, None, Some, slice_index_or, if◌then◌else◌}
use Rattle.hub_story.specs.declared.told.Told.{Told}
use Rattle.hub_page.specs.declared.parked_calls.ParkedCalls.{ParkedCalls}
use Rattle.hub_page.specs.Lanes.{is_news, parked_place, waiting_call}

-- what the table tells of a lane
abbrev pub call_of : ParkedCalls → ℕ → Option ℕ
call_of calls lane = slice_index_or calls.places.items lane None

-- it has a place for each lane
abbrev pub IsWhole : ℕ → ParkedCalls → Type 0
IsWhole procs calls = length calls.places.items ≡ procs + 1

-- it tells where a call waits of each lane, by what is told so far
abbrev pub AreParked : ℕ → List Told → ParkedCalls → Type 0
AreParked procs until calls = (lane : ℕ) → lane ≤ procs → call_of calls lane ≡ waiting_call procs lane until

-- the table after one event more
abbrev pub AreNext : ℕ → Told → ParkedCalls → ParkedCalls → Type 0
AreNext procs t old new = (lane : ℕ) → lane ≤ procs →
    call_of new lane ≡ (if is_news procs lane t then parked_place (Some t) else call_of old lane)
