-- The lives of a port: a port that was closed and drained may be opened again.
use Rattle.std.specs.Prelude.{ℕ, ◌==◌, ◌||◌, max, Bool, false, List, [], ◌∷◌, ◌++◌, Option, None, Some, is_some, slice_get, if◌then◌else◌}
use Rattle.std.specs.List.{fold}
use Rattle.std.specs.Option.{option_and_then, option_map_or}
use Rattle.hub_base.specs.declared.value.Port.{Port}
use Rattle.hub_base.specs.Entry.{Entry, Step}
use Rattle.hub_base.specs.declared.entry.Step.TheVariants.{Close, Make, Reopen}
use Rattle.hub_story.specs.declared.told.Told.{Told}
use Rattle.hub_story.specs.Leavers.{is_done}

-- the port that the step opens again
abbrev pub reopened : Step → Option Port
reopened (Reopen p cap) = Some p
reopened other = None

-- the port of which the event says that it was opened again
abbrev pub reopened_port : List Entry → Told → Option Port
reopened_port es t = if is_done t.event.what then option_and_then (λ e. reopened e.step) (slice_get es t.asked) else None

-- it is this one
abbrev pub reopens : List Entry → Port → Told → Bool
reopens es p t = option_map_or (λ q. q.0 == p.0) (reopened_port es t) false

-- ---- who closes it
abbrev pub port_closed : Step → Option Port
port_closed (Close p) = Some p
port_closed other = None

-- the port of which the event says that its close was done
abbrev pub closed_port : List Entry → Told → Option Port
closed_port es t = if is_done t.event.what then option_and_then (λ e. port_closed e.step) (slice_get es t.asked) else None

-- the event says that a port was closed, or opened again
abbrev pub is_turn : List Entry → Told → Bool
is_turn es t = is_some (closed_port es t) || is_some (reopened_port es t)

-- ---- its lives
-- what is told in the life of a port, after one event more: that it was opened again begins a new one
abbrev pub with_life : List Entry → Port → List Told → Told → List Told
with_life es p life t = if reopens es p t then [] else life ++ t ∷ []

-- in its present life
abbrev pub life : List Entry → Port → List Told → List Told
life es p all = fold (with_life es p) [] all

-- ---- how much room it has
-- for so many values this step makes a port, or opens it again
abbrev pub room_of : Step → ℕ
room_of (Make cap) = cap
room_of (Reopen p cap) = cap
room_of other = 0

-- the same of the entry at this place
abbrev pub room_at : List Entry → ℕ → ℕ
room_at es place = option_map_or (λ e. room_of e.step) (slice_get es place) 0

-- this much, or with how much the event says that the port was opened again, if that is more
abbrev pub with_room : List Entry → Port → ℕ → Told → ℕ
with_room es p room t = if reopens es p t then max room (room_at es t.asked) else room

-- the most that the port has in all its lives, which the entry at this place makes
abbrev pub most_room : List Entry → List Told → Port → ℕ → ℕ
most_room es all p place = fold (with_room es p) (room_at es place) all
