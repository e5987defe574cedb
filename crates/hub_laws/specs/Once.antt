-- Each admitted call has at most one event besides `Parked`, and by this event it ends: from entries
-- and events alone. Its events are those of its process from its own answer up to the next admitted
-- entry of that process; the answer `Busy` to an entry in between is not of the call.
-- Go: "Select statements".
use Rattle.std.specs.Prelude.{◌≡◌, ◌≤◌, ◌==◌, ◌&&◌, ℕ, Bool, true, false, not, List, [], ◌∷◌, ◌++◌, length, filter, if◌then◌else◌}
use Rattle.std.specs.List.{AllByRecursion}
use Rattle.hub_base.specs.Entry.{Entry, Step}
use Rattle.hub_base.specs.declared.entry.Step.TheVariants.{Call}
use Rattle.hub_base.specs.declared.head.Head.{Head}
use Rattle.hub_base.specs.declared.fault.Fault.TheVariants as fault
use Rattle.hub_base.specs.declared.event.Event.{Event}
use Rattle.hub_base.specs.declared.event.What.{What}
use Rattle.hub_base.specs.declared.event.What.TheVariants as what
use Rattle.hub_base.specs.State.{opening}
use Rattle.hub_base.specs.Values.{Turned, turns_after}
use Rattle.hub_laws.specs.Faults.{refuses_entry, is_busy}

abbrev pub is_call : Step → Bool
is_call (Call cases default word) = true
is_call other = false

abbrev pub is_refusal : What → Bool
is_refusal (what.Fault f) = refuses_entry f
is_refusal w = false

-- whether an entry with these events was admitted
abbrev pub was_admitted : List Event → Bool
was_admitted [] = true
was_admitted (e ∷ es) = not (is_refusal e.what)

-- an event that counts: neither `Parked` nor the answer `Busy`
abbrev pub counts : What → Bool
counts what.Parked = false
counts (what.Fault f) = not (is_busy f)
counts w = true

-- the events of process q that count
abbrev pub endings : ℕ → List Event → List Event
endings q events = filter (λ e. counts e.what && (e.pid.0 == q)) events

-- those in these turns, up to the next admitted entry of q
abbrev pub endings_until : ℕ → List Turned → List Event
endings_until q [] = []
endings_until q (t ∷ ts) =
    if was_admitted t.events && (t.entry.pid.0 == q) then [] else endings q t.events ++ endings_until q ts

-- the events of this turn's call, where those turns follow
abbrev pub events_of_call : Turned → List Turned → List Event
events_of_call t ts = endings t.entry.pid.0 t.events ++ endings_until t.entry.pid.0 ts

-- what ends a call: a case that fired, the default, the stall of all, a cancel, and the two faults of calls
abbrev pub ends_call : What → Bool
ends_call (what.Fired i outcome) = true
ends_call what.Default = true
ends_call what.Stalled = true
ends_call what.Cancelled = true
ends_call (what.Fault fault.TooManyCases) = true
ends_call (what.Fault fault.NoPort) = true
ends_call other = false

-- at most one event, and it ends a call
pub record EndsOnce (events : List Event) : Type 0 where
  pub most : length events ≤ 1
  pub each : AllByRecursion (λ e. ends_call e.what ≡ true) events

-- of each of these turns that is an admitted call
abbrev pub AtMostOnce : List Turned → Type 0
AtMostOnce [] = Unit
AtMostOnce (t ∷ ts) =
    (is_call t.entry.step ≡ true → was_admitted t.events ≡ true → EndsOnce (events_of_call t ts))
    × AtMostOnce ts

-- of a whole run
abbrev pub OnceLaw : Head → List Entry → Type 0
OnceLaw h es = AtMostOnce (turns_after (opening h) es)
