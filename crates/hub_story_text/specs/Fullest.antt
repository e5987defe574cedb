-- How full a port was at most after a step, and when first.
use Rattle.std.specs.Prelude.{ℕ, zero, suc, ◌+◌, ◌-◌, ◌≤◌, nat_lt, List, [], ◌∷◌, filter, length, map, if◌then◌else◌}
use Rattle.std.specs.List.{fold}
use Rattle.hub_base.specs.declared.value.Port.{Port}
use Rattle.hub_base.specs.Entry.{Entry}
use Rattle.hub_story.specs.declared.port_moves.PortMove.{PortMove}
use Rattle.hub_story.specs.declared.told.Told.{Told}
use Rattle.hub_story.specs.Levels.{sent_by, received_by}
use Rattle.hub_story_text.specs.declared.fullest.Fullest.{Fullest}

-- how many values the port holds after the first so many steps
abbrev pub held_by : List Entry → List Told → Port → ℕ → ℕ
held_by es all p count = sent_by es all p count - received_by es all p count

-- by what was held so far, and after the step at this place: of equal ones the older
abbrev pub fuller : Fullest → ℕ → ℕ → Fullest
fuller before place held = if nat_lt before.most held then record { most = held; place = place } else before

abbrev pub never_filled : Fullest
never_filled = record { most = 0; place = 0 }

-- the most that the port held after one of the first so many steps, and the first of them after which it did
abbrev pub fullest : List Entry → List Told → Port → ℕ → Fullest
fullest es all p zero = never_filled
fullest es all p (suc place) = fuller (fullest es all p place) place (held_by es all p (suc place))

-- ---- by the places of the steps by which values were sent, and of those by which they were received
-- those of these calls
abbrev pub steps_of : List PortMove → List ℕ
steps_of ms = map (λ m. m.by) ms

-- numbers that never go back, from this one on
abbrev pub IsUp : ℕ → List ℕ → Type 0
IsUp from [] = Unit {0}
IsUp from (x ∷ xs) = (from ≤ x) × IsUp x xs

-- how many of them are below this one
abbrev pub count_below : ℕ → List ℕ → ℕ
count_below limit xs = length (filter (λ x. nat_lt x limit) xs)

-- by one send more
abbrev pub fuller_by : List ℕ → List ℕ → Fullest → ℕ → Fullest
fuller_by sent received before place =
    fuller before place (count_below (place + 1) sent - count_below (place + 1) received)

-- by all of them
abbrev pub fullest_of : List ℕ → List ℕ → Fullest
fullest_of sent received = fold (fuller_by sent received) never_filled sent
