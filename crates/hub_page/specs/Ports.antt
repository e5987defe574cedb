-- What moves on a port by some steps, and what it holds behind them.
use Rattle.std.specs.Prelude.{ℕ, ◌-◌, ◌==◌, Bool, false, List, if◌then◌else◌}
use Rattle.std.specs.List.{list_any}
use Rattle.std.specs.Option.{option_map_or}
use Rattle.hub_base.specs.declared.value.Port.{Port}
use Rattle.hub_base.specs.Entry.{Entry}
use Rattle.hub_story.specs.declared.told.Told.{Told}
use Rattle.hub_story.specs.Levels.{came_by, level_after, received_by, sent_by}
use Rattle.hub_story.specs.Moves.{move_of}

-- how many values were sent on it by the steps from the first place on, before the end
abbrev pub sent_within : List Entry → List Told → Port → ℕ → ℕ → ℕ
sent_within es all p first end = sent_by es all p end - sent_by es all p first

-- how many were received
abbrev pub received_within : List Entry → List Told → Port → ℕ → ℕ → ℕ
received_within es all p first end = received_by es all p end - received_by es all p first

-- the event tells that a value moved on it
abbrev pub moves_on : List Entry → Port → Told → Bool
moves_on es p t = option_map_or (λ m. m.port.0 == p.0) (move_of es t) false

-- how many values the port holds behind the step at this place, if one moved on it by that step; else 0
abbrev pub held_at : List Entry → List Told → Port → ℕ → ℕ
held_at es all p place = if list_any (moves_on es p) (came_by place all) then level_after es all p place else 0
