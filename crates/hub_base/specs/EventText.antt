-- The text of an event: one line, `P made 1`, `P case 0 got 7`, `P done` and so on.
use Rattle.std.specs.Prelude.{ℕ, ◌≤◌, List, ◌++◌, codes, decimal}
use Rattle.hub_base.specs.declared.event.Outcome.{Outcome}
use Rattle.hub_base.specs.declared.event.Outcome.TheVariants.{Sent, Got, Drained, Closed}
use Rattle.hub_base.specs.declared.event.What.{What}
use Rattle.hub_base.specs.declared.event.What.TheVariants as what
use Rattle.hub_base.specs.declared.event.Event.{Event}
use Rattle.hub_base.specs.Value.{IsValue, value_field}
use Rattle.hub_base.specs.Faults.{fault_number}
use Rattle.hub_base.specs.declared.limits.TheConstants.{GREATEST_CASE, GREATEST_PID, GREATEST_PORT}

-- how a communication ended
abbrev pub outcome_text : Outcome → List ℕ
outcome_text Sent = codes " sent"
outcome_text (Got v) = codes " got " ++ value_field v
outcome_text Drained = codes " drained"
outcome_text Closed = codes " closed"

-- what a process is told
abbrev pub what_text : What → List ℕ
what_text (what.Made p) = codes " made " ++ decimal p.0
what_text (what.Fired i o) = codes " case " ++ decimal i ++ outcome_text o
what_text what.Default = codes " default"
what_text what.Done = codes " done"
what_text what.Parked = codes " parked"
what_text what.Stalled = codes " stalled"
what_text (what.Fault f) = codes " fault " ++ decimal (fault_number f)
what_text what.Cancelled = codes " cancelled"

-- the process, what it is told, and a newline
abbrev pub event_line : Event → List ℕ
event_line e = decimal e.pid.0 ++ what_text e.what ++ codes "\n"

-- its parts are such as an event can hold: the value that was got
abbrev pub OutcomeFits : Outcome → Type 0
OutcomeFits Sent = Unit {0}
OutcomeFits (Got v) = IsValue v
OutcomeFits Drained = Unit {0}
OutcomeFits Closed = Unit {0}

-- the port that was made, the case that fired
abbrev pub WhatFits : What → Type 0
WhatFits (what.Made p) = p.0 ≤ GREATEST_PORT
WhatFits (what.Fired i o) = (i ≤ GREATEST_CASE) × OutcomeFits o
WhatFits what.Default = Unit {0}
WhatFits what.Done = Unit {0}
WhatFits what.Parked = Unit {0}
WhatFits what.Stalled = Unit {0}
WhatFits (what.Fault f) = Unit {0}
WhatFits what.Cancelled = Unit {0}

-- and the process
pub record EventFits (e : Event) : Type 0 where
  pub pid : e.pid.0 ≤ GREATEST_PID
  pub what : WhatFits e.what

-- the lines that were written, and for how many more there is room, each as long as a line can be
pub record TextView : Type 0 where
  pub lines : List ℕ
  pub room : ℕ
