-- Which steps of a journal a window has. Steps are counted from 0.
use Rattle.std.specs.Prelude.{ℕ, Bool, ◌&&◌, nat_le, nat_lt, min, Option, None, Some}
use Rattle.hub_story.specs.declared.window.Window.{Window}

-- the step at this place is one of them
abbrev pub has : Window → ℕ → Bool
has w place = nat_le w.first place && nat_lt place w.end

-- it has a step
abbrev pub has_any : Window → Bool
has_any w = nat_lt w.first w.end

-- a step of what goes on from one place until another, which is no earlier, is one of them
abbrev pub touches : Window → ℕ → ℕ → Bool
touches w from until = has_any w && (nat_lt from w.end && nat_le w.first until)

-- what goes on from one place until another, or still, lasts, and a step of it is one of them
abbrev pub goes_on : Window → ℕ → Option ℕ → Bool
goes_on w from None = has_any w && nat_lt from w.end
goes_on w from (Some until) = nat_lt from until && touches w from until

-- those that a journal of so many steps has
abbrev pub within : Window → ℕ → Window
within w count = record { first = min w.first count; end = min w.end count }
