-- What contracts see of a hub, and what a step of it does. All else that a hub shows is a function
-- of `state terms.head journal`.
use Rattle.std.specs.Prelude.{◌≡◌, ◌≤◌, ◌<◌, ◌+◌, ◌-◌, ◌⊎◌, ℕ, false, List, [], ◌∷◌, ◌++◌, length, None, Some, Result, IfErr, OnErr, IsErrOf}
use Rattle.hub_base.specs.Entry.{Entry, Step}
use Rattle.hub_base.specs.declared.entry.Step.TheVariants.{Make, Call, Close, Exit, Cancel, Start, Reopen}
use Rattle.hub_base.specs.declared.event.Event.{Event}
use Rattle.hub_base.specs.declared.fault.Fault.{Fault}
use Rattle.hub_base.specs.declared.fault.Fault.TheVariants as fault
use Rattle.hub_base.specs.declared.limits.TheConstants.{MOST_PROCS, MOST_STEPS}
use Rattle.hub_base.specs.State.{State}
use Rattle.hub_base.specs.Steps.{refusal}
use Rattle.hub_base.specs.Runs.{state, moves}
use Rattle.hub_base.specs.declared.head.Edition.{Edition}
use Rattle.hub_base.specs.Head.{IsHead, head_of}
use Rattle.hub_base.specs.Reading.{is_exit}
use Rattle.hub_base.specs.Text.{steps_of}
use Rattle.hub_core.specs.Follows.{TakesMemory, IsFine}
use Rattle.hub_core.specs.declared.terms.Terms.{Terms}
use Rattle.hub_core.specs.declared.opening.OpenFault.{OpenFault}
use Rattle.hub_core.specs.declared.opening.OpenFault.TheVariants as opening_fault

-- a hub
pub record HubView : Type 0 where
  -- what it was opened with
  pub terms : Terms
  -- the admitted entries, in order
  pub journal : List Entry
  -- how many calls, closes and cancels are not refused memory
  pub places : ℕ

-- a hub as it lies in memory
pub record HubInMemory : Type 0 where
  pub hub : HubView
  -- how many entries the journal can hold before it has to grow
  pub capacity : ℕ

-- a hub whose newest entries may be kept short, as it lies in memory
pub record ShortInMemory : Type 0 where
  pub memory : HubInMemory
  -- how many of its entries are kept short
  pub short : ℕ

-- the state that its journal leads to
abbrev pub state_of : HubView → State
state_of h = state h.terms.head h.journal

-- the journal can take the entry: it is an exit, or fewer than `limit` entries are no exits
abbrev pub HasRoom : HubView → Entry → Type 0
HasRoom h e = is_exit e.step ≡ false → steps_of h.journal < h.terms.limit

-- the journal can't take the entry: it is no exit, and `limit` entries are no exits
abbrev pub IsFullFor : HubView → Entry → Type 0
IsFullFor h e = (is_exit e.step ≡ false) × (h.terms.limit ≤ steps_of h.journal)

-- a call, a close or a cancel takes one place
abbrev pub places_after : Step → ℕ → ℕ
places_after (Make cap) places = places
places_after (Call cases default word) places = places - 1
places_after (Close p) places = places - 1
places_after Exit places = places
places_after (Cancel q) places = places - 1
places_after (Start q) places = places
places_after (Reopen p cap) places = places

-- the hub with one entry more
abbrev pub with_entry : Entry → HubView → HubView
with_entry e h =
    record {
      terms = h.terms;
      journal = h.journal ++ e ∷ [];
      places = places_after e.step h.places;
    }

-- what a step that was made leaves and tells
pub record Steps (old : HubView) (e : Entry) (new : HubView) (told : List Event) : Type 0 where
  pub room : HasRoom old e
  pub admitted : refusal (state_of old) e.pid ≡ None
  pub events : told ≡ (moves (state_of old) e).events
  pub journal : new ≡ with_entry e old

-- the same, and its events were heard
pub record StepsHeard {S : Type 0} (old : HubView) (e : Entry) (new : HubView) (Heard : List Event → S → Type 0) (now : S) : Type 0 where
  pub told : List Event
  pub heard : Heard told now
  pub steps : Steps old e new told

-- a growth is asked for by a make, a start and a reopen, and by a call, a close or a cancel where no place is left
abbrev pub Grows : Step → ℕ → Type 0
Grows (Make cap) places = Unit {0}
Grows (Call cases default word) places = places ≡ 0
Grows (Close p) places = places ≡ 0
Grows Exit places = ⊥
Grows (Cancel q) places = places ≡ 0
Grows (Start q) places = Unit {0}
Grows (Reopen p cap) places = Unit {0}

-- an entry more fits beside the places and an exit of each process, so that the journal need not grow
abbrev pub HasSpare : HubInMemory → Type 0
HasSpare m = length m.hub.journal + m.hub.places + m.hub.terms.head.procs + 1 ≤ m.capacity

-- the entry is refused so, where the journal is not full
abbrev pub RefusedBy : HubView → Entry → Fault → Type 0
RefusedBy h e f = HasRoom h e × (refusal (state_of h) e.pid ≡ Some f)

-- when each refusal comes. The tests stand in the order of these lines
abbrev pub Refuses : HubView → Entry → Fault → Type 0
Refuses h e fault.JournalFull = IsFullFor h e
Refuses h e fault.NoProcess = RefusedBy h e fault.NoProcess
Refuses h e fault.Gone = RefusedBy h e fault.Gone
Refuses h e fault.Busy = RefusedBy h e fault.Busy
Refuses h e fault.NoMemory =
    HasRoom h e × (refusal (state_of h) e.pid ≡ None) × Grows e.step h.places
Refuses h e other = ⊥

-- when a step is refused, and what it leaves of the hub and of its memory; what it tells is said by `Steps`
pub record StepRules {A : Type 0} (old : HubInMemory) (e : Entry) (new : HubInMemory) (result : Result A Fault) : Type 0 where
  pub refused : IfErr result (λ f. Refuses old.hub e f)
  pub memory : IsErrOf result fault.NoMemory → HasSpare old → TakesMemory e.step
  pub fine : IsErrOf result fault.NoMemory → HasSpare old → IsFine (state_of old.hub) e
  pub unchanged : OnErr result (new.hub ≡ old.hub)
  pub spare : HasSpare old → new.capacity ≡ old.capacity
  pub kept : ¬ Grows e.step old.hub.places → new.capacity ≡ old.capacity
  pub capacity : old.capacity ≤ new.capacity

-- a hub with these terms, at which nothing has happened
abbrev pub opened_hub : Terms → HubView
opened_hub t = record { terms = t; journal = []; places = 0 }

-- this edition, so many processes, and this limit
abbrev pub terms_of : Edition → ℕ → ℕ → Terms
terms_of edition procs limit = record { head = head_of edition procs; limit = limit }

-- a limit of a journal
abbrev pub IsLimit : ℕ → Type 0
IsLimit limit = (1 ≤ limit) × (limit ≤ MOST_STEPS)

-- the number of what refuses an opening
abbrev pub open_fault_number : OpenFault → ℕ
open_fault_number opening_fault.BadProcs = 1
open_fault_number opening_fault.BadLimit = 2
open_fault_number opening_fault.NoMemory = 3

-- when each refusal of an opening comes. The tests stand in the order of these lines
abbrev pub RefusesOpening : Terms → OpenFault → Type 0
RefusesOpening t opening_fault.BadProcs = (t.head.procs ≡ 0) ⊎ (MOST_PROCS < t.head.procs)
RefusesOpening t opening_fault.BadLimit = IsHead t.head × ((t.limit ≡ 0) ⊎ (MOST_STEPS < t.limit))
RefusesOpening t opening_fault.NoMemory = IsHead t.head × IsLimit t.limit
