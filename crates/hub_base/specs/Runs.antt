-- Lists of entries: the state after them, the events that they give, and which of them are
-- admitted.
use Rattle.std.specs.Prelude.{List, [], ◌∷◌, ◌++◌, Option, None, Some}
use Rattle.hub_base.specs.Entry.{Entry}
use Rattle.hub_base.specs.declared.fault.Fault.{Fault}
use Rattle.hub_base.specs.declared.event.Event.{Event}
use Rattle.hub_base.specs.declared.head.Head.{Head}
use Rattle.hub_base.specs.declared.event.What.TheVariants as what
use Rattle.hub_base.specs.State.{State, opening}
use Rattle.hub_base.specs.Steps.{Change, turn, refusal, tells}

-- one entry; where it is refused its process is told so, and nothing else changes
abbrev pub admits : State → Entry → Option Fault → Change
admits s e None = turn s e
admits s e (Some f) = record { state = s; events = tells e.pid (what.Fault f) ∷ [] }

-- what follows one entry, refused or not
abbrev pub moves : State → Entry → Change
moves s e = admits s e (refusal s e.pid)

-- the state after these entries
abbrev pub state_after : State → List Entry → State
state_after s [] = s
state_after s (e ∷ es) = state_after (moves s e).state es

-- the events of these entries, in order
abbrev pub events_after : State → List Entry → List Event
events_after s [] = []
events_after s (e ∷ es) = (moves s e).events ++ events_after (moves s e).state es

-- the entry before these, unless it was refused
abbrev pub keeps : Option Fault → Entry → List Entry → List Entry
keeps None e es = e ∷ es
keeps (Some f) e es = es

-- the entries that are admitted, in order
abbrev pub kept_after : State → List Entry → List Entry
kept_after s [] = []
kept_after s (e ∷ es) = keeps (refusal s e.pid) e (kept_after (moves s e).state es)

-- the same from the opening of a hub with this head: its state
abbrev pub state : Head → List Entry → State
state h es = state_after (opening h) es

-- its events
abbrev pub events : Head → List Entry → List Event
events h es = events_after (opening h) es

-- its journal
abbrev pub kept : Head → List Entry → List Entry
kept h es = kept_after (opening h) es
