-- What a replay keeps of the entries so far: the machine that they lead to, the sum of the values
-- received on each port, and the two counts of events.
use Rattle.std.specs.Prelude.{◌≡◌, ◌≤◌, ◌<◌, ◌+◌, ◌-◌, ◌*◌, ◌^◌, ℕ, List, length, Option, None, Some, slice_set, slice_index_or}
use Rattle.std.specs.List.{sum_by}
use Rattle.std.specs.Option.{option_map_or}
use Rattle.hub_base.specs.declared.head.Head.{Head}
use Rattle.hub_base.specs.declared.value.Port.{Port}
use Rattle.hub_base.specs.Entry.{Entry, Step}
use Rattle.hub_base.specs.declared.event.Event.{Event}
use Rattle.hub_base.specs.declared.limits.TheConstants.{MOST_EVENTS, MOST_PORTS}
use Rattle.hub_base.specs.Runs.{state}
use Rattle.hub_runner.specs.Reports.{number_of}
use Rattle.hub_base.specs.Values.{is_fault}
use Rattle.hub_laws.specs.OnePort.{port_touched, IsMade}
use Rattle.hub_laws.specs.Received.{value_got, received_on}
use Rattle.hub_core.specs.Follows.{Follows}
use Rattle.hub_runner.specs.declared.replayed.Replayed.{Replayed}
use Rattle.hub_runner.specs.Reports.{how_many, is_stalled, stalled_told, faults_told}

-- so much more on one port, if there is one; the first place is port 1's
abbrev pub with_sum : List ℕ → Option Port → ℕ → List ℕ
with_sum sums None more = sums
with_sum sums (Some p) more = slice_set sums (p.0 - 1) (slice_index_or sums (p.0 - 1) 0 + more)

-- the number that an event tells as got, 0 for none
abbrev pub number_told : Event → ℕ
number_told e = option_map_or number_of (value_got e.what) 0

-- what a step and its events add
abbrev pub with_told : Replayed → Step → List Event → Replayed
with_told r step told =
    record r {
      sums = with_sum r.sums (port_touched step told) (sum_by number_told told);
      stalled = r.stalled + how_many is_stalled told;
      faults = r.faults + how_many is_fault told;
    }

-- the most that one step adds to a sum
abbrev pub most_got : ℕ
most_got = MOST_EVENTS * 2 ^ 64

-- there is room for what one more step adds
pub record HasRoom (r : Replayed) : Type 0 where
  pub sums : (k : ℕ) → slice_index_or r.sums k 0 + most_got < 2 ^ 128
  pub stalled : r.stalled + MOST_EVENTS < 2 ^ 32
  pub faults : r.faults + MOST_EVENTS < 2 ^ 32

-- these entries lead to it in a hub with this head
pub record Tells (h : Head) (es : List Entry) (r : Replayed) : Type 0 where
  pub follows : Follows h es r.machine
  pub places : length r.sums ≡ MOST_PORTS
  pub sums : (p : Port) → IsMade p MOST_PORTS
      → slice_index_or r.sums (p.0 - 1) 0 ≡ sum_by number_of (received_on (state h es) p)
  pub stalled : r.stalled ≡ stalled_told h es
  pub faults : r.faults ≡ faults_told h es

-- this holds of whatever head and entries lead to it
abbrev pub OfTold : Replayed → (Head → List Entry → Type 0) → Type 0
OfTold r P = (h : Head) (es : List Entry) → Tells h es r → P h es

-- how much so many entries can have added
pub record Within (i : ℕ) (r : Replayed) : Type 0 where
  pub steps : r.machine.steps ≤ i
  pub sums : (k : ℕ) → slice_index_or r.sums k 0 ≤ i * most_got
  pub stalled : r.stalled ≤ i * MOST_EVENTS
  pub faults : r.faults ≤ i * MOST_EVENTS
