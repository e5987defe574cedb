-- What one step does to a channel, and the communications that it completes.
use Rattle.hub_laws.proofs.Prelude.{◌≡◌, true, false, List, [], ◌∷◌, ◌++◌, Option, Some, None, if◌then◌else◌, ℕ, ◌==◌, ◌+◌, length, ◌-◌, ◌<◌}
use Rattle.hub_laws.proofs.Prelude.{AllByRecursion}
use Rattle.hub_laws.proofs.Prelude.{filter_map, slice_get, Case, Send, Recv, Event, Outcome, Sent, Closed, Got, Drained, MOST_PORTS, Pid, Port, Value}
use Rattle.hub_laws.proofs.Prelude.{port_of}
use Rattle.hub_laws.proofs.Prelude.{Channel, OpenCall, after_receive, shut, after_send, reopened, closing_outcome, next_value, of_what, ◌≤◌}

-- a case that fired, with its outcome
pub record Deed : Type 0 where
  pub case : Case
  pub outcome : Outcome

abbrev pub deed_of : Option Case → Outcome → Option Deed
deed_of None outcome = None
deed_of (Some c) outcome = Some (record { case = c; outcome = outcome })

-- what events tell, where the cases in force of each process are known
abbrev pub told : {A : Type 0} → (Option Case → Outcome → Option A) → (Pid → List Case) → List Event → List A
told pick cases events = filter_map (λ e. of_what pick (cases e.pid) e.what) events

abbrev pub picks : {A : Type 0} → (Option Case → Outcome → Option A) → List Deed → List A
picks pick deeds = filter_map (λ d. pick (Some d.case) d.outcome) deeds

-- the channel of a port
abbrev pub at : List Channel → Port → Option Channel
at cs p = if p.0 == 0 then None else slice_get cs (p.0 - 1)

-- how a waiting case ends when its port is closed
pub record IsClosing (q : Port) (d : Deed) : Type 0 where
  pub port : port_of d.case ≡ q
  pub outcome : d.outcome ≡ closing_outcome d.case

-- what one step can do to the channel of port q
pub data Moved (q : Port) (c d : Channel) (again : Option Port) (deeds : List Deed) : Type 0 where
  -- a value goes into the buffer
  buffers : (v : Value) → c.closed ≡ false → d ≡ after_send v c → deeds ≡ record { case = Send q v; outcome = Sent } ∷ [] → Moved q c d again deeds
  -- a send meets a receiver that waits
  hands : (v w : Value) → c.closed ≡ false → next_value (after_send v c) ≡ Some w → d ≡ after_receive (after_send v c) →
      deeds ≡ record { case = Send q v; outcome = Sent } ∷ record { case = Recv q; outcome = Got w } ∷ [] → Moved q c d again deeds
  -- a receive meets a sender that waits
  fetches : (v w : Value) → c.closed ≡ false → next_value (after_send v c) ≡ Some w → d ≡ after_receive (after_send v c) →
      deeds ≡ record { case = Recv q; outcome = Got w } ∷ record { case = Send q v; outcome = Sent } ∷ [] → Moved q c d again deeds
  -- a value comes out of the buffer
  gives : (w : Value) → next_value c ≡ Some w → d ≡ after_receive c → deeds ≡ record { case = Recv q; outcome = Got w } ∷ [] → Moved q c d again deeds
  drains : next_value c ≡ None → d ≡ c → deeds ≡ record { case = Recv q; outcome = Drained } ∷ [] → Moved q c d again deeds
  refuses : (v : Value) → c.closed ≡ true → d ≡ c → deeds ≡ record { case = Send q v; outcome = Closed } ∷ [] → Moved q c d again deeds
  -- a port that is closed and drained opens again
  opens : (cap : ℕ) → again ≡ Some q → c.closed ≡ true → length c.sent ≤ c.received → d ≡ reopened cap c → deeds ≡ [] → Moved q c d again deeds
  shuts : c.closed ≡ false → d ≡ shut c → AllByRecursion (IsClosing q) deeds → Moved q c d again deeds

-- the channel of port q alone is written
pub record Wrote (cs ts : List Channel) (q : Port) (c d : Channel) : Type 0 where
  pub old : at cs q ≡ Some c
  pub new : at ts q ≡ Some d
  pub others : (p : Port) → (q.0 == p.0) ≡ false → at ts p ≡ at cs p
  pub ports : length ts ≡ length cs

-- a channel that is made
abbrev pub fresh : ℕ → Channel
fresh cap = record { cap = cap; closed = false; sent = []; received = 0 }

-- what one step can do to the channels, where its answer names this port, and tells that this one was opened again
pub data Does (cs ts : List Channel) (named again : Option Port) (deeds : List Deed) : Type 0 where
  idle : named ≡ None → ts ≡ cs → deeds ≡ [] → Does cs ts named again deeds
  -- one channel more, where there may be one
  adds : (cap : ℕ) → length cs < MOST_PORTS → named ≡ Some (record { 0 = length cs + 1 }) → ts ≡ cs ++ fresh cap ∷ [] → deeds ≡ [] →
      Does cs ts named again deeds
  wrote : (q : Port) (c d : Channel) → named ≡ Some q → Wrote cs ts q c d → Moved q c d again deeds → Does cs ts named again deeds

-- what it can do at port p: nothing, and then no communication is on it; make its channel; or move it
pub data DoesAt (cs ts : List Channel) (again : Option Port) (deeds : List Deed) (p : Port) : Type 0 where
  stays_at : at ts p ≡ at cs p → AllByRecursion (λ x. ((port_of x.case).0 == p.0) ≡ false) deeds → DoesAt cs ts again deeds p
  makes_at : (cap : ℕ) → at cs p ≡ None → at ts p ≡ Some (fresh cap) → deeds ≡ [] → DoesAt cs ts again deeds p
  moves_at : (c d : Channel) → at cs p ≡ Some c → at ts p ≡ Some d → Moved p c d again deeds → DoesAt cs ts again deeds p

-- every open call's cases are those in force of its process
abbrev pub Knows : (Pid → List Case) → List OpenCall → Type 0
Knows cases calls = AllByRecursion (λ call. cases call.pid ≡ call.cases) calls
