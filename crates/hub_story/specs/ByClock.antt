-- What the clock of a journal has to do with its events.
use Rattle.std.specs.Prelude.{ℕ, ◌==◌, not, Bool, false, List, filter, slice_get, Option, None, Some, if◌then◌else◌}
use Rattle.std.specs.Option.{option_map_or}
use Rattle.hub_base.specs.declared.value.Pid.{Pid}
use Rattle.hub_base.specs.Entry.{Entry}
use Rattle.hub_story.specs.declared.outside.Outsider.{Outsider}
use Rattle.hub_story.specs.declared.told.Told.{Told}
use Rattle.hub_story.specs.declared.by_clock.Part.{Part}
use Rattle.hub_story.specs.declared.by_clock.Part.TheVariants.{OwnCall, OwnStep, NoPart}

-- the process is the clock
abbrev pub is_clock : Option Pid → Pid → Bool
is_clock None pid = false
is_clock (Some clock) pid = pid.0 == clock.0

-- the clock makes the step at this place
abbrev pub is_by_clock : Option Pid → List Entry → ℕ → Bool
is_by_clock clock es place = option_map_or (λ e. is_clock clock e.pid) (slice_get es place) false

-- what the clock has to do with an event
abbrev pub part_of : Option Pid → List Entry → Told → Part
part_of clock es t = if is_clock clock t.event.pid then OwnCall else (if is_by_clock clock es t.by then OwnStep else NoPart)

-- those that are told to other processes
abbrev pub to_others : Option Pid → List Told → List Told
to_others clock all = filter (λ t. not (is_clock clock t.event.pid)) all

-- those of these processes that are not the clock
abbrev pub other_outsiders : Option Pid → List Outsider → List Outsider
other_outsiders clock os = filter (λ o. not (is_clock clock o.pid)) os
