-- How full a port is, step by step: how many values were sent and received by its first entries,
-- counted from what they tell.
use Rattle.std.specs.Prelude.{◌≡◌, ℕ, zero, ◌+◌, ◌-◌, ◌==◌, nat_lt, List, filter, length, slice_index_or}
use Rattle.hub_base.specs.declared.value.Port.{Port}
use Rattle.hub_base.specs.Entry.{Entry}
use Rattle.hub_parts.specs.declared.side.Side.{Side}
use Rattle.hub_parts.specs.declared.side.Side.TheVariants.{Send, Recv}
use Rattle.hub_story.specs.declared.by_port.TheConstants.{PORT_NUMBERS}
use Rattle.hub_story.specs.declared.levels.Level.{Level}
use Rattle.hub_story.specs.declared.levels.Levels.{Levels}
use Rattle.hub_story.specs.declared.told.Told.{Told}
use Rattle.hub_story.specs.Passing.{sends, receives}

-- what came by the first k entries
abbrev pub told_by : ℕ → List Told → List Told
told_by k all = filter (λ t. nat_lt t.by k) all

-- what came by the step at this place
abbrev pub came_by : ℕ → List Told → List Told
came_by place all = filter (λ t. t.by == place) all

-- how many values were sent on the port by then
abbrev pub sent_by : List Entry → List Told → Port → ℕ → ℕ
sent_by es all p k = length (sends es (told_by k all) p)

-- how many were received
abbrev pub received_by : List Entry → List Told → Port → ℕ → ℕ
received_by es all p k = length (receives es (told_by k all) p)

-- how many it holds behind the step at this place
abbrev pub level_after : List Entry → List Told → Port → ℕ → ℕ
level_after es all p place = sent_by es all p (place + 1) - received_by es all p (place + 1)

-- ---- a level that grows
abbrev pub empty : Level
empty = record { sent = zero; received = zero }

-- with one value more on this side
abbrev pub with_one : Side → Level → Level
with_one Send l = record { sent = l.sent + 1; received = l.received }
with_one Recv l = record { sent = l.sent; received = l.received + 1 }

-- ---- counted event by event
abbrev pub count_at : List ℕ → Port → ℕ
count_at table p = slice_index_or table p.0 0

-- how many values the port holds
abbrev pub level_of : Levels → Port → ℕ
level_of levels p = count_at levels.sent.items p - count_at levels.received.items p

-- each table has a place for each number that a case can give a port
pub record IsWhole (levels : Levels) : Type 0 where
  pub sent : length levels.sent.items ≡ PORT_NUMBERS
  pub received : length levels.received.items ≡ PORT_NUMBERS

-- of all that is told so far the tables count what was sent on each port, and what was received
pub record AreLevels (es : List Entry) (until : List Told) (levels : Levels) : Type 0 where
  pub sent : (p : Port) → count_at levels.sent.items p ≡ length (sends es until p)
  pub received : (p : Port) → count_at levels.received.items p ≡ length (receives es until p)
