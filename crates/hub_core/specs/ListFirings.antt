-- How a case that can proceed fires, over buffers and counts, and what is told.
-- Go: "Send statements", "Receive operator".
use Rattle.std.specs.Prelude.{◌≡◌, ℕ, List, ◌∷◌, Option, None, Some, slice_get, if◌then◌else◌}
use Rattle.std.specs.Option.{option_to_list}
use Rattle.hub_base.specs.declared.value.Pid.{Pid}
use Rattle.hub_base.specs.declared.value.Port.{Port}
use Rattle.hub_base.specs.declared.value.Value.{Value}
use Rattle.hub_base.specs.declared.case.Case.{Case}
use Rattle.hub_base.specs.declared.case.Case.TheVariants.{Send, Recv}
use Rattle.hub_base.specs.declared.event.Outcome.{Outcome}
use Rattle.hub_base.specs.declared.event.Outcome.TheVariants.{Sent, Got, Drained, Closed}
use Rattle.hub_base.specs.declared.event.Event.{Event}
use Rattle.hub_base.specs.Ready.{Ending}
use Rattle.hub_base.specs.Steps.{fired}
use Rattle.hub_parts.specs.Records.{Lists}
use Rattle.hub_parts.specs.Lists.{port_at, with_port, pushed, popped, ended_by}
use Rattle.hub_core.specs.declared.tally.Tally.{Tally}
use Rattle.hub_core.specs.declared.firing.Caller.{Caller}
use Rattle.hub_core.specs.Hearing.{Heard}
use Rattle.hub_core.specs.Records.{one_sent, one_received, one_handed}
use Rattle.hub_core.specs.ListReady.{receiver_on, sender_on}

-- what follows where a case fires
pub record ListFiring : Type 0 where
  pub outcome : Outcome
  pub board : Lists
  pub counts : List Tally
  -- what the waiting call is told that ends with it
  pub ended : Option Event

-- ---- a send: to the oldest receiver that waits, else into the buffer
-- a send on an open port, with the oldest receiver that waits, if any
abbrev pub send_to : Lists → List Tally → Port → Value → Option Ending → ListFiring
send_to b ts p v None =
    record {
      outcome = Sent;
      board = with_port b p (pushed v (port_at b p));
      counts = one_sent p ts;
      ended = None;
    }
send_to b ts p v (Some e) =
    record {
      outcome = Sent;
      board = ended_by e.pid b;
      counts = one_handed p ts;
      ended = Some (fired e.pid e.at.index (Got v));
    }

-- a send; on a closed port it changes nothing
abbrev pub send_on : Lists → List Tally → Port → Value → ListFiring
send_on b ts p v =
    if (port_at b p).closed then record { outcome = Closed; board = b; counts = ts; ended = None }
    else send_to b ts p v (receiver_on b p)

-- ---- a receive: the oldest value in the buffer; the oldest sender that waits comes in behind it
-- the oldest value in the port's buffer
abbrev pub oldest_on : Lists → Port → Option Value
oldest_on b p = slice_get (port_at b p).buffer 0

-- a receive of this oldest value, or of none
abbrev pub take_value : Lists → List Tally → Port → Option Value → ListFiring
take_value b ts p None =
    record {
      outcome = Drained;
      board = with_port b p (popped (port_at b p));
      counts = ts;
      ended = None;
    }
take_value b ts p (Some v) =
    record {
      outcome = Got v;
      board = with_port b p (popped (port_at b p));
      counts = one_received p ts;
      ended = None;
    }

-- a receive where no sender waits
abbrev pub take_on : Lists → List Tally → Port → ListFiring
take_on b ts p = take_value b ts p (oldest_on b p)

-- a receive of this oldest value, where the call of the sender e has ended, whose value is u
abbrev pub fetch_on : Lists → List Tally → Port → Ending → Value → Option Value → ListFiring
fetch_on b ts p e u None =
    record {
      outcome = Got u;
      board = with_port b p (popped (port_at b p));
      counts = one_handed p ts;
      ended = Some (fired e.pid e.at.index Sent);
    }
fetch_on b ts p e u (Some v) =
    record {
      outcome = Got v;
      board = with_port b p (pushed u (popped (port_at b p)));
      counts = one_handed p ts;
      ended = Some (fired e.pid e.at.index Sent);
    }

-- a receive, where the call of e has ended, which waited at this case
abbrev pub let_in : Lists → List Tally → Port → Ending → Case → ListFiring
let_in b ts p e (Send q u) = fetch_on b ts p e u (oldest_on b p)
let_in b ts p e (Recv q) = take_value b ts p (oldest_on b p)

-- a receive, with the oldest sender that waits, if any
abbrev pub recv_from : Lists → List Tally → Port → Option Ending → ListFiring
recv_from b ts p None = take_on b ts p
recv_from b ts p (Some e) = let_in (ended_by e.pid b) ts p e e.at.case

-- a receive
abbrev pub recv_on : Lists → List Tally → Port → ListFiring
recv_on b ts p = recv_from b ts p (sender_on b p)

-- a case that can proceed
abbrev pub fire_on : Lists → List Tally → Case → ListFiring
fire_on b ts (Send p v) = send_on b ts p v
fire_on b ts (Recv p) = recv_on b ts p

-- the caller is told of the case that fired, and then the call that ended with it
abbrev pub firing_events : Pid → ℕ → ListFiring → List Event
firing_events pid index f = fired pid index f.outcome ∷ option_to_list f.ended

-- whoever was the first has heard them and is the second
abbrev pub HearsFiring : {S : Type 0} → (S → List Event → S → Type 0) → (S → ℕ) → S → S → Caller → ListFiring → Type 0
HearsFiring heard room old new caller f = Heard heard room old new (firing_events caller.pid caller.index f)

-- the board and the counts that the code left are those of the lists
pub record Fires (b : Lists) (ts : List Tally) (g : ListFiring) : Type 0 where
  pub board : b ≡ g.board
  pub counts : ts ≡ g.counts
