-- What a telling keeps of the entries so far: where the last call of each process stands.
use Rattle.std.specs.Prelude.{◌≡◌, ℕ, List, Option, None, Some, slice_index_or, slice_set, if◌then◌else◌}
use Rattle.std.specs.Option.{option_map}
use Rattle.hub_base.specs.declared.value.Pid.{Pid}
use Rattle.hub_base.specs.Entry.{Step}
use Rattle.hub_base.specs.declared.entry.Step.TheVariants.{Make, Call, Close, Exit, Cancel, Start, Reopen}
use Rattle.hub_base.specs.declared.event.Event.{Event}
use Rattle.hub_base.specs.Values.{Turned, refused}
use Rattle.hub_story.specs.declared.told.Told.{Told}
use Rattle.hub_story.specs.Told.{may_end, last_asked}

-- the place of the last call of this process
abbrev pub call_in : List (Option ℕ) → Pid → Option ℕ
call_in calls pid = slice_index_or calls pid.0 None

-- with a call of this process at this place, where the step is one
abbrev pub with_step : List (Option ℕ) → ℕ → ℕ → Step → List (Option ℕ)
with_step calls pid place (Make cap) = calls
with_step calls pid place (Call cases default word) = slice_set calls pid (Some place)
with_step calls pid place (Close p) = calls
with_step calls pid place Exit = calls
with_step calls pid place (Cancel q) = calls
with_step calls pid place (Start q) = calls
with_step calls pid place (Reopen p cap) = calls

-- after the turn at this place
abbrev pub with_call : List (Option ℕ) → ℕ → Turned → List (Option ℕ)
with_call calls place t =
    if refused t.events then calls else with_step calls t.entry.pid.0 place t.entry.step

-- the entry that this event of the turn at this place answers or ends
abbrev pub asked_of : List (Option ℕ) → ℕ → Event → Option ℕ
asked_of calls place e = if may_end e.what then call_in calls e.pid else Some place

-- the event, with that entry
abbrev pub tells_of : List (Option ℕ) → ℕ → Event → Option Told
tells_of calls place e =
    option_map (λ a. record { asked = a; by = place; event = e }) (asked_of calls place e)

-- they are the last calls of these turns
abbrev pub AreLast : List (Option ℕ) → List Turned → Type 0
AreLast calls ts = (pid : Pid) → call_in calls pid ≡ last_asked pid 0 None ts
