-- What a journal tells, event by event: each event with the entry that it answers, or whose waiting
-- call it ends, and with the entry by whose step it came. From entries and events alone. Entries are
-- named by their places, counted from 0.
use Rattle.std.specs.Prelude.{ℕ, ◌+◌, ◌==◌, ◌&&◌, Bool, true, false, not, List, [], ◌∷◌, ◌++◌, length, Option, None, Some, if◌then◌else◌}
use Rattle.std.specs.List.{filter_map, find}
use Rattle.std.specs.Option.{option_map}
use Rattle.hub_base.specs.declared.value.Pid.{Pid}
use Rattle.hub_base.specs.Entry.{Entry, Step}
use Rattle.hub_base.specs.declared.entry.Step.TheVariants.{Make, Call, Close, Exit, Cancel, Start, Reopen}
use Rattle.hub_base.specs.declared.head.Head.{Head}
use Rattle.hub_base.specs.declared.event.What.{What}
use Rattle.hub_base.specs.declared.event.What.TheVariants as what
use Rattle.hub_base.specs.declared.event.Event.{Event}
use Rattle.hub_base.specs.State.{opening}
use Rattle.hub_base.specs.Values.{Turned, turns_after, refused}
use Rattle.hub_laws.specs.Replies.{is_parked}
use Rattle.hub_story.specs.declared.told.Told.{Told}

-- such an event may end a call that waits; every other one answers the step with which it comes
abbrev pub may_end : What → Bool
may_end (what.Fired i o) = true
may_end what.Stalled = true
may_end what.Cancelled = true
may_end (what.Made p) = false
may_end what.Default = false
may_end what.Done = false
may_end what.Parked = false
may_end (what.Fault f) = false

-- this place, where the step is a call; any other step leaves the one before
abbrev pub call_or : Step → Option ℕ → Option ℕ → Option ℕ
call_or (Make cap) now before = before
call_or (Call cases default word) now before = now
call_or (Close p) now before = before
call_or Exit now before = before
call_or (Cancel q) now before = before
call_or (Start q) now before = before
call_or (Reopen p cap) now before = before

-- where the last call of a process stands that was not refused, after the turn at this place
abbrev pub latest_asked : Pid → ℕ → Option ℕ → Turned → Option ℕ
latest_asked pid place before t =
    if t.entry.pid.0 == pid.0
    then (if refused t.events then before else call_or t.entry.step (Some place) before)
    else before

-- where it stands after these turns, the first of which stands at this place
abbrev pub last_asked : Pid → ℕ → Option ℕ → List Turned → Option ℕ
last_asked pid place before [] = before
last_asked pid place before (t ∷ ts) =
    last_asked pid (place + 1) (latest_asked pid place before t) ts

-- where the entry stands that this event of turn t answers or ends, after those turns before it
abbrev pub asked_by : List Turned → Turned → Event → Option ℕ
asked_by before t e =
    if may_end e.what then last_asked e.pid 0 None (before ++ t ∷ []) else Some (length before)

-- the event, with that entry
abbrev pub tells_it : List Turned → Turned → Event → Option Told
tells_it before t e =
    option_map (λ a. record { asked = a; by = length before; event = e }) (asked_by before t e)

-- all that these turns tell, in order, where before them stand those turns
abbrev pub told_from : List Turned → List Turned → List Told
told_from before [] = []
told_from before (t ∷ ts) =
    filter_map (tells_it before t) t.events ++ told_from (before ++ t ∷ []) ts

-- all that a journal tells
abbrev pub told : Head → List Entry → List Told
told h es = told_from [] (turns_after (opening h) es)

-- it is of the entry at this place, and tells how that ended
abbrev pub ends_it : ℕ → Told → Bool
ends_it place t = (t.asked == place) && not (is_parked t.event.what)

-- how the entry at this place ended, and by whose step: its answer, or what it was told after it
-- waited; nothing while it waits
abbrev pub end_of : List Told → ℕ → Option Told
end_of all place = find (ends_it place) all
