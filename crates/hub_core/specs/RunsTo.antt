-- What a run of steps gives, and where it stops.
use Rattle.std.specs.Prelude.{◌≡◌, ◌≤◌, ◌<◌, ◌+◌, ℕ, false, List, [], ◌∷◌, ◌++◌, length, take, Some, slice_get}
use Rattle.hub_base.specs.declared.value.Pid.{Pid}
use Rattle.hub_base.specs.declared.value.Port.{Port}
use Rattle.hub_base.specs.declared.entry.Step.TheVariants.{Close}
use Rattle.hub_base.specs.Entry.{Entry}
use Rattle.hub_base.specs.declared.head.Head.{Head}
use Rattle.hub_base.specs.declared.event.Event.{Event}
use Rattle.hub_base.specs.declared.fault.Fault.{Fault}
use Rattle.hub_base.specs.declared.fault.Fault.TheVariants as fault
use Rattle.hub_base.specs.State.{Channel, channel_at, buffer_of}
use Rattle.hub_base.specs.Steps.{refusal}
use Rattle.hub_base.specs.Runs.{events, kept, keeps, moves, state}
use Rattle.hub_base.specs.Values.{sent_values, received_values, turns_after}
use Rattle.hub_base.specs.Head.{has_lives}
use Rattle.hub_base.specs.Reading.{is_exit}
use Rattle.hub_base.specs.Text.{steps_of}
use Rattle.hub_laws.specs.AfterClose.{AfterCloseLaw, opens_again}
use Rattle.hub_core.specs.declared.terms.Terms.{Terms}
use Rattle.hub_core.specs.declared.runs.ListFault.{ListFault}
use Rattle.hub_core.specs.declared.runs.ListFault.TheVariants.{Open, At}
use Rattle.hub_core.specs.HubView.{HubView, state_of, HasRoom, IsFullFor, RefusesOpening}

-- a close of the port
abbrev pub close_of : Pid → Port → Entry
close_of pid port = record { pid = pid; step = Close port }

-- the hub holds the admitted entries, and the events are the definition's
pub record RunsTo (t : Terms) (es : List Entry) (hub : HubView) (told : List Event) : Type 0 where
  pub terms : hub.terms ≡ t
  pub events : told ≡ events t.head es
  pub journal : hub.journal ≡ kept t.head es

-- on each port the values received, and then those in the hub's buffer, are the values sent
abbrev pub KeepsValues : Head → List Entry → HubView → Type 0
KeepsValues h es hub = (p : Port) (c : Channel) → channel_at (state_of hub) p ≡ Some c
    → received_values h es p ++ buffer_of c ≡ sent_values h es p

-- after each close in the list, until the port is opened again, no send completes on it, and receives drain it
abbrev pub ClosesForGood : Head → List Entry → Type 0
ClosesForGood h es = (before : List Entry) (pid : Pid) (port : Port) (later : List Entry)
    → es ≡ before ++ close_of pid port ∷ later → AfterCloseLaw h before pid port later

-- in an edition without reopens no port is opened again
abbrev pub NeverOpens : Head → List Entry → Type 0
NeverOpens h es = has_lives h.edition ≡ false → (before later : List Entry) (port : Port)
    → es ≡ before ++ later → opens_again port (turns_after (state h before) later) ≡ false

-- at entry i, which is no exit, the journal holds `limit` entries that are none
pub record IsFullAt (t : Terms) (es : List Entry) (i : ℕ) : Type 0 where
  pub entry : Entry
  pub stands : slice_get es i ≡ Some entry
  pub step : is_exit entry.step ≡ false
  pub full : t.limit ≤ steps_of (kept t.head (take i es))

-- so it is at entry i, and at none before it
abbrev pub IsFirstFull : Terms → List Entry → ℕ → Type 0
IsFirstFull t es i =
    IsFullAt t es i × ((j : ℕ) → j < i → ¬ IsFullAt t es j)

-- it is so neither at entry i nor before
abbrev pub IsOpenUpTo : Terms → List Entry → ℕ → Type 0
IsOpenUpTo t es i = (i < length es) × ((j : ℕ) → j < i + 1 → ¬ IsFullAt t es j)

-- when each refusal at entry i comes
abbrev pub RefusesAt : Terms → List Entry → ℕ → Fault → Type 0
RefusesAt t es i fault.JournalFull = IsFirstFull t es i
RefusesAt t es i fault.NoMemory = IsOpenUpTo t es i
RefusesAt t es i other = ⊥

-- when each refusal of a run comes
abbrev pub RefusesRun : Terms → List Entry → ListFault → Type 0
RefusesRun t es (Open f) = RefusesOpening t f
RefusesRun t es (At i f) = RefusesAt t es i f

-- ---- one entry of a run
-- what one entry, admitted or not, leaves of the hub, and of the events so far
pub record TellsOn (old : HubView) (e : Entry) (new : HubView) (before after : List Event) : Type 0 where
  pub room : HasRoom old e
  pub events : after ≡ before ++ (moves (state_of old) e).events
  pub terms : new.terms ≡ old.terms
  pub journal : new.journal ≡ old.journal ++ keeps (refusal (state_of old) e.pid) e []

-- when one entry ends the run
abbrev pub StopsAt : HubView → Entry → Fault → Type 0
StopsAt old e fault.JournalFull = IsFullFor old e
StopsAt old e fault.NoMemory = HasRoom old e
StopsAt old e other = ⊥
