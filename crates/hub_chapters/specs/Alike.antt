-- States that answer alike, whatever follows: what was received before makes no difference, nor the order of
-- exits.
use Rattle.std.specs.Prelude.{◌≡◌, ℕ, List, map}
use Rattle.hub_base.specs.Entry.{Entry}
use Rattle.hub_base.specs.declared.head.Head.{Head}
use Rattle.hub_base.specs.State.{State, Channel, buffer_of}
use Rattle.hub_base.specs.Steps.{has_gone}
use Rattle.hub_base.specs.Runs.{state, state_after, events_after, kept_after}

-- a channel on which only what is in this one's buffer was ever sent
abbrev pub afresh : Channel → Channel
afresh c = record { cap = c.cap; closed = c.closed; sent = buffer_of c; received = 0 }

-- the same head, the same processes gone, the same open calls, and ports of the same capacities and buffers,
-- closed where the other's are
pub record Alike (s t : State) : Type 0 where
  pub head : s.head ≡ t.head
  pub gone : (q : ℕ) → has_gone s q ≡ has_gone t q
  pub parked : s.parked ≡ t.parked
  pub channels : map afresh s.channels ≡ map afresh t.channels

-- these entries tell the same events after both, the same of them are admitted, and they lead to states alike
pub record GoOnAlike (s t : State) (later : List Entry) : Type 0 where
  pub events : events_after s later ≡ events_after t later
  pub kept : kept_after s later ≡ kept_after t later
  pub alike : Alike (state_after s later) (state_after t later)

-- of two runs of hubs with one head
abbrev pub AlikeLaw : Head → List Entry → List Entry → List Entry → Type 0
AlikeLaw h es fs later = Alike (state h es) (state h fs) → GoOnAlike (state h es) (state h fs) later
