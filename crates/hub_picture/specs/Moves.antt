-- Through which port each thing that is told moved a value.
use Rattle.std.specs.Prelude.{◌≡◌, ℕ, ◌+◌, ◌==◌, Bool, false, List, [], ◌∷◌, drop, map, Option, None, Some, slice_get, if◌then◌else◌}
use Rattle.std.specs.List.{filter_map}
use Rattle.hub_base.specs.declared.value.Port.{Port}
use Rattle.hub_base.specs.Entry.{Entry}
use Rattle.hub_base.specs.Values.{sent_on}
use Rattle.hub_story.specs.declared.moved.Moved.{Moved}
use Rattle.hub_story.specs.declared.moves.Move.{Move}
use Rattle.hub_story.specs.declared.told.Told.{Told}
use Rattle.hub_story.specs.Moves.{move_of}
use Rattle.hub_story.specs.Passing.{moved_by, sends}

abbrev pub is_through : Port → Option Move → Bool
is_through p None = false
is_through p (Some m) = m.port.0 == p.0

-- it tells that a value moved through this port
abbrev pub is_told_on : List Entry → Port → Told → Bool
is_told_on es p t = is_through p (move_of es t)

-- its place, where it is
abbrev pub place_on : List Entry → Port → Told → ℕ → List ℕ
place_on es p t place = if is_told_on es p t then place ∷ [] else []

-- what is told at these places
abbrev pub all_at : List Told → List ℕ → List Told
all_at all places = filter_map (slice_get all) places

-- at these places of all stand these things, each at its own
abbrev pub StandAt : List Told → List ℕ → List Told → Type 0
StandAt all places these = map (slice_get all) places ≡ map Some these

-- the first send on the port that is told from one place on is told at the other
pub record IsNextSent (es : List Entry) (p : Port) (all : List Told) (from place : ℕ) : Type 0 where
  pub told : Told
  pub sent : Moved
  pub at : slice_get all place ≡ Some told
  pub is : moved_by (sent_on p) es told ≡ Some sent
  pub next : sends es (drop from all) p ≡ sent ∷ sends es (drop (place + 1) all) p
