-- What it is to hear the events of a step.
use Rattle.std.specs.Prelude.{◌≤◌, ◌+◌, ℕ, List, length}
use Rattle.hub_base.specs.declared.event.Event.{Event}

-- whoever was the first has heard these events and is the second, and there is room for as many fewer at most
pub record Heard {S : Type 0} (heard : S → List Event → S → Type 0) (room : S → ℕ) (old new : S) (told : List Event) : Type 0 where
  pub events : heard old told new
  pub fits : room old ≤ room new + length told
