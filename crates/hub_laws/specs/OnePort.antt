-- One step writes the channel of at most one port, which its answer names: the port of the case
-- that fired, the port that was made, or the port that was closed or opened again. A call that waits or takes its
-- default, an exit, a cancel, a start and a fault write none, and what follows an answer (calls that end) no other. Nor
-- does a case write any that found its port closed: a send there, or a receive from it when drained.
use Rattle.std.specs.Prelude.{◌≡◌, ◌≤◌, ◌<◌, ◌==◌, ◌++◌, ℕ, Bool, true, false, List, [], ◌∷◌, length, Option, Some, None, slice_get, if◌then◌else◌}
use Rattle.std.specs.Option.{option_map, option_map_or}
use Rattle.hub_base.specs.declared.value.Port.{Port}
use Rattle.hub_base.specs.Entry.{Entry, Step}
use Rattle.hub_base.specs.declared.entry.Step.TheVariants.{Make, Call, Close, Reopen}
use Rattle.hub_base.specs.declared.head.Head.{Head}
use Rattle.hub_base.specs.declared.event.Outcome.TheVariants.{Drained, Closed}
use Rattle.hub_base.specs.declared.event.What.{What}
use Rattle.hub_base.specs.declared.event.What.TheVariants as what
use Rattle.hub_base.specs.declared.event.Event.{Event}
use Rattle.hub_base.specs.State.{State, Channel, channel_at}
use Rattle.hub_base.specs.Ready.{port_of}
use Rattle.hub_base.specs.Runs.{state, moves}

-- the port whose channel a step may write, from the step and its answer alone
abbrev pub port_touched_by : Step → What → Option Port
port_touched_by (Make cap) (what.Made p) = Some p
port_touched_by (Call cases default word) (what.Fired i o) = option_map port_of (slice_get cases.items i)
port_touched_by (Close p) what.Done = Some p
port_touched_by (Reopen p cap) what.Done = Some p
port_touched_by step answer = None

-- the first of these events is the answer
abbrev pub port_touched : Step → List Event → Option Port
port_touched step [] = None
port_touched step (answer ∷ ended) = port_touched_by step answer.what

-- the port that a step opens again, from the step and its answer alone
abbrev pub opened_by : Step → What → Option Port
opened_by (Reopen p cap) what.Done = Some p
opened_by step answer = None

-- the same by the events of a step, of which the first is the answer
abbrev pub opened : Step → List Event → Option Port
opened step [] = None
opened step (answer ∷ ended) = opened_by step answer.what

-- the case that fired found its port closed
abbrev pub found_closed : What → Bool
found_closed (what.Fired i Drained) = true
found_closed (what.Fired i Closed) = true
found_closed answer = false

-- the port whose channel a step changes, from the step and its answer alone
abbrev pub port_changed_by : Step → What → Option Port
port_changed_by step answer = if found_closed answer then None else port_touched_by step answer

abbrev pub port_changed : Step → List Event → Option Port
port_changed step [] = None
port_changed step (answer ∷ ended) = port_changed_by step answer.what

abbrev pub is_port : Option Port → Port → Bool
is_port None p = false
is_port (Some q) p = q.0 == p.0

-- its number, and 0 where there is none
abbrev pub number_of : Option Port → ℕ
number_of o = option_map_or (λ p. p.0) o 0

-- one of so many ports
pub record IsMade (p : Port) (ports : ℕ) : Type 0 where
  pub some : 0 < p.0
  pub few : p.0 ≤ ports

abbrev pub IsPort : Port → State → Type 0
IsPort p s = IsMade p (length s.channels)

-- ---- entry e after the entries es

-- the port that its answer names
abbrev pub touched : Head → List Entry → Entry → Option Port
touched h es e = port_touched e.step (moves (state h es) e).events

-- the port that it changes
abbrev pub changed : Head → List Entry → Entry → Option Port
changed h es e = port_changed e.step (moves (state h es) e).events

-- what a channel shows besides its capacity: whether it is closed, and how many values were sent and received
pub record Shown : Type 0 where
  pub closed : Bool
  pub sent : ℕ
  pub received : ℕ

abbrev pub shown : Channel → Shown
shown c = record { closed = c.closed; sent = length c.sent; received = c.received }

-- the port has the channel that it had: its capacity, whether it is closed, and its counts
abbrev pub Untouched : Head → List Entry → Entry → Port → Type 0
Untouched h es e p = channel_at (state h (es ++ e ∷ [])) p ≡ channel_at (state h es) p

-- the port that is named is made; but for the port that is changed every one is as it was, also where
-- it is told by numbers; and that port is made then, or shows something else
pub record OnePortLaw (h : Head) (es : List Entry) (e : Entry) : Type 0 where
  pub made : (p : Port) → touched h es e ≡ Some p → IsPort p (state h (es ++ e ∷ []))
  pub others : (p : Port) → is_port (changed h es e) p ≡ false → Untouched h es e p
  pub numbers : (p : Port) → (number_of (changed h es e) == p.0) ≡ false → Untouched h es e p
  pub moved : (p : Port) → changed h es e ≡ Some p
      → option_map shown (channel_at (state h es) p) ≡ option_map shown (channel_at (state h (es ++ e ∷ [])) p) → ⊥
