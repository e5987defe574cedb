-- What a cut leaves.
use Rattle.std.specs.Prelude.{◌≡◌, ◌≤◌, ℕ, List, [], ◌∷◌, ◌++◌, None, Some}
use Rattle.std.specs.List.{AllByRecursion}
use Rattle.hub_base.specs.Entry.{Entry}
use Rattle.hub_base.specs.declared.event.Event.{Event}
use Rattle.hub_base.specs.declared.fault.Fault.{Fault}
use Rattle.hub_base.specs.declared.fault.Fault.TheVariants as fault
use Rattle.hub_base.specs.Head.{AreOf}
use Rattle.hub_base.specs.State.{State}
use Rattle.hub_base.specs.Steps.{refusal}
use Rattle.hub_base.specs.Runs.{moves}
use Rattle.hub_base.specs.Text.{Fits, steps_of}
use Rattle.hub_laws.specs.Journals.{IsLegal}
use Rattle.hub_core.specs.declared.terms.Terms.{Terms}
use Rattle.hub_core.specs.HubView.{HubView, state_of}
use Rattle.hub_chapters.specs.Alike.{Alike, GoOnAlike}
use Rattle.hub_chapters.specs.Checkpoint.{checkpoint}

-- a hub with these terms, this journal and so many places
abbrev pub hub_with : Terms → List Entry → ℕ → HubView
hub_with terms journal places = record { terms = terms; journal = journal; places = places }

-- a hub with these entries behind those that it has
abbrev pub with_entries : List Entry → HubView → HubView
with_entries es h = hub_with h.terms (h.journal ++ es) h.places

-- a hub without reserved steps takes these entries: with them its journal is legal and within the limit
pub record CanMake (h : HubView) (es : List Entry) : Type 0 where
  pub fits : AreOf h.terms.head.edition es
  pub legal : IsLegal h.terms.head (h.journal ++ es)
  pub few : steps_of (h.journal ++ es) ≤ h.terms.limit
  pub places : h.places ≡ 0

-- it has made them, and a text can have a line of each
pub record Makes (old : HubView) (es : List Entry) (new : HubView) : Type 0 where
  pub made : new ≡ with_entries es old
  pub fit : AllByRecursion (Fits old.terms.head.edition) es

-- a hub that goes on from the checkpoint of this one's state
abbrev pub renewed_hub : HubView → HubView
renewed_hub h = hub_with h.terms (checkpoint (state_of h)) h.places

-- the hub goes on from the checkpoint of its state; whatever follows is answered as if nothing had been cut
pub record IsCut (old new : HubView) : Type 0 where
  pub hub : new ≡ renewed_hub old
  pub alike : Alike (state_of new) (state_of old)
  pub follows : (later : List Entry) → GoOnAlike (state_of new) (state_of old) later

-- the hub is cut, and makes this step
pub record CutsAndSteps (old : HubView) (e : Entry) (new : HubView) (told : List Event) : Type 0 where
  pub admitted : refusal (state_of old) e.pid ≡ None
  pub events : told ≡ (moves (state_of old) e).events
  pub journal : new.journal ≡ checkpoint (state_of old) ++ e ∷ []
  pub terms : new.terms ≡ old.terms

-- it has heard some events, of which this holds
pub record HasHeard {S : Type 0} (Heard : List Event → S → Type 0) (now : S) (Holds : List Event → Type 0) : Type 0 where
  pub told : List Event
  pub heard : Heard told now
  pub holds : Holds told

-- why a step is refused in this state, where memory may be asked for or not
abbrev pub Refused : State → Type 0 → Entry → Fault → Type 0
Refused s wants e fault.NoProcess = refusal s e.pid ≡ Some fault.NoProcess
Refused s wants e fault.Gone = refusal s e.pid ≡ Some fault.Gone
Refused s wants e fault.Busy = refusal s e.pid ≡ Some fault.Busy
Refused s wants e fault.NoMemory = (refusal s e.pid ≡ None) × wants
Refused s wants e other = ⊥
