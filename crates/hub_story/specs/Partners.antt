-- To which entry the value of an entry went, or from which it came.
use Rattle.std.specs.Prelude.{◌≡◌, ◌<◌, ◌==◌, ℕ, ◌+◌, zero, suc, min, List, [], ◌∷◌, ◌++◌, count_by, length, find, map}
use Rattle.std.specs.Prelude.{Option, None, Some, is_some, slice_get, slice_index_or, slice_set, Bool, true, false, if◌then◌else◌}
use Rattle.std.specs.List.{flat_map}
use Rattle.std.specs.Option.{option_map}
use Rattle.hub_base.specs.Entry.{Entry}
use Rattle.hub_base.specs.declared.event.What.{What}
use Rattle.hub_base.specs.declared.event.What.TheVariants as what
use Rattle.hub_base.specs.declared.limits.TheConstants.{MOST_PORTS}
use Rattle.hub_story.specs.declared.port_moves.PortMove.{PortMove}
use Rattle.hub_story.specs.declared.told.Told.{Told}
use Rattle.hub_story.specs.declared.moved.Passage.{Passage}
use Rattle.hub_story.specs.Passing.{passages}

abbrev pub is_made : What → Bool
is_made (what.Made p) = true
is_made other = false

-- how many ports are told to be made
abbrev pub ports_made : List Told → ℕ
ports_made all = count_by (λ t. is_made t.event.what) all

-- the entries of the send and of the receive, each with the other
abbrev pub both_ways : Passage → List (ℕ × ℕ)
both_ways m = (m.sent.told.asked, m.received.told.asked) ∷ (m.received.told.asked, m.sent.told.asked) ∷ []

-- so of a port's passages
abbrev pub ways_of : List Entry → List Told → ℕ → List (ℕ × ℕ)
ways_of es all number = flat_map both_ways (passages es all (record { 0 = number }))

-- so of all ports from this one on, so many
abbrev pub ways_from : List Entry → List Told → ℕ → ℕ → List (ℕ × ℕ)
ways_from es all number zero = []
ways_from es all number (suc n) = ways_of es all number ++ ways_from es all (number + 1) n

-- a hub has no more ports than the most
abbrev pub ways : List Entry → List Told → List (ℕ × ℕ)
ways es all = ways_from es all 1 (min (ports_made all) MOST_PORTS)

-- the places of these calls
abbrev pub places_of : List PortMove → List ℕ
places_of ms = map (λ m. m.place) ms

-- each of the first places with the second that stands beside it, both ways
abbrev pub paired : List ℕ → List ℕ → List (ℕ × ℕ)
paired [] ys = []
paired (x ∷ xs) [] = []
paired (x ∷ xs) (y ∷ ys) = (x, y) ∷ (y, x) ∷ paired xs ys

abbrev pub partner_in : List (ℕ × ℕ) → ℕ → Option ℕ
partner_in pairs place = option_map (λ w. w.1) (find (λ w. w.0 == place) pairs)

-- the other entry of the passage in which the entry at this place stands
abbrev pub partner_of : List Entry → List Told → ℕ → Option ℕ
partner_of es all place = partner_in (ways es all) place

-- with one way more, where none is known of its entry yet
abbrev pub with_way : List (Option ℕ) → ℕ × ℕ → List (Option ℕ)
with_way table w =
    if is_some (slice_index_or table w.0 None) then table else slice_set table w.0 (Some w.1)

-- a table that tells it of so many places
pub record AreIn (pairs : List (ℕ × ℕ)) (count : ℕ) (table : List (Option ℕ)) : Type 0 where
  pub length : length table ≡ count
  pub each : (place : ℕ) → place < count → slice_get table place ≡ Some (partner_in pairs place)
