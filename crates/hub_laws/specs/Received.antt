-- What one entry adds to the values received on each port, from its answer and its events alone: on
-- the port that the answer names, the values that its events tell as got; on any other port, none.
-- All that fires in one step communicates on one port.
use Rattle.std.specs.Prelude.{◌≡◌, ◌++◌, List, [], ◌∷◌, Option, None, Some, take, if◌then◌else◌}
use Rattle.std.specs.List.{filter_map}
use Rattle.std.specs.Option.{option_map_or}
use Rattle.hub_base.specs.declared.value.Port.{Port}
use Rattle.hub_base.specs.declared.value.Value.{Value}
use Rattle.hub_base.specs.Entry.{Entry}
use Rattle.hub_base.specs.declared.head.Head.{Head}
use Rattle.hub_base.specs.declared.event.Outcome.{Outcome}
use Rattle.hub_base.specs.declared.event.Outcome.TheVariants.{Sent, Got, Drained, Closed}
use Rattle.hub_base.specs.declared.event.What.{What}
use Rattle.hub_base.specs.declared.event.What.TheVariants as what
use Rattle.hub_base.specs.declared.event.Event.{Event}
use Rattle.hub_base.specs.State.{State, Channel, channel_at}
use Rattle.hub_base.specs.Runs.{state, moves}
use Rattle.hub_base.specs.Values.{received_values}
use Rattle.hub_laws.specs.OnePort.{is_port, touched}

-- the value that a communication gave, if it was a receive that got one
abbrev pub value_of_outcome : Outcome → Option Value
value_of_outcome Sent = None
value_of_outcome (Got v) = Some v
value_of_outcome Drained = None
value_of_outcome Closed = None

-- the value that a process is told it got
abbrev pub value_got : What → Option Value
value_got (what.Fired i outcome) = value_of_outcome outcome
value_got (what.Made p) = None
value_got what.Default = None
value_got what.Done = None
value_got what.Parked = None
value_got what.Stalled = None
value_got what.Cancelled = None
value_got (what.Fault f) = None

-- the values that these events tell as got, in order
abbrev pub got_in : List Event → List Value
got_in events = filter_map (λ e. value_got e.what) events

-- those on port p, where the answer names this port
abbrev pub got_at : Option Port → List Event → Port → List Value
got_at named events p = if is_port named p then got_in events else []

-- the values of a channel that were received, oldest first
abbrev pub received_from : Channel → List Value
received_from c = take c.received c.sent

-- those of a port; none of port 0 and of a port that was not made
abbrev pub received_on : State → Port → List Value
received_on s p = option_map_or received_from (channel_at s p) []

-- entry e after the entries es, for any port
pub record ReceivedLaw (h : Head) (es : List Entry) (e : Entry) : Type 0 where
  pub adds : (p : Port)
      → received_on (state h (es ++ e ∷ [])) p
      ≡ received_on (state h es) p ++ got_at (touched h es e) (moves (state h es) e).events p
  -- these are the values that entries and events alone tell
  pub told : (p : Port) → received_on (state h es) p ≡ received_values h es p
