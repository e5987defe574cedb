-- The words of a board's contracts: what its calls find, and what they leave.
use Rattle.std.specs.Prelude.{ℕ, ◌==◌, ◌+◌, not, Bool, List, [], filter, map, length, slice_index_or}
use Rattle.std.specs.Prelude.{slice_set, false, true, ◌≤◌, ◌<◌, ◌-◌, ◌∷◌, ◌++◌, drop, Option, None, Some}
use Rattle.arrayvec.specs.ArrayVec.{ArrayVec}
use Rattle.hub_base.specs.declared.value.Port.{Port}
use Rattle.hub_base.specs.declared.value.Pid.{Pid}
use Rattle.hub_base.specs.declared.case.Case.{Case}
use Rattle.hub_base.specs.State.{OpenCall}
use Rattle.hub_base.specs.Ready.{is_send_on, is_recv_on, Ending}
use Rattle.hub_parts.specs.declared.side.Side.{Side}
use Rattle.hub_parts.specs.declared.side.Side.TheVariants as side
use Rattle.hub_parts.specs.declared.side.Ended.{Ended}
use Rattle.hub_base.specs.declared.value.Value.{Value}
use Rattle.hub_parts.specs.Records.{PortLists, Ticketed, Calls, Lists}

-- the case is on this side of the port
abbrev pub passes : Port → Side → Case → Bool
passes p side.Send c = is_send_on p c
passes p side.Recv c = is_recv_on p c

-- a call that ended, as the meaning of a hub has it
abbrev pub ending_of : Ended → Ending
ending_of e = record { pid = e.pid; at = record { index = e.index; case = e.case } }

-- a new board of n processes
abbrev pub opened : ℕ → Lists
opened n = record { procs = n; ports = []; waiting = []; next_ticket = 0 }

-- the open calls without their tickets
abbrev pub open_calls : List Ticketed → List OpenCall
open_calls ws = map (λ w. w.call) ws

-- an open call as it is told: its process and its cases
abbrev pub shown_call : Pid × ArrayVec Case → OpenCall
shown_call c = record { pid = c.0; cases = c.1.items }

-- the calls of the other processes
abbrev pub still_open : Pid → List Ticketed → List Ticketed
still_open pid ws = filter (λ w. not (w.call.pid.0 == pid.0)) ws

-- the board without the call of this process
abbrev pub ended_by : Pid → Lists → Lists
ended_by pid b = record b { waiting = still_open pid b.waiting }

-- the board after a taking, which ends a call where it answers one
abbrev pub after_taking : Option Ended → Lists → Lists
after_taking None b = b
after_taking (Some e) b = ended_by e.pid b

-- the board after a stop, which ends a call where it answers its process
abbrev pub after_stop : Option Pid → Lists → Lists
after_stop None b = b
after_stop (Some pid) b = ended_by pid b

-- the port was made
abbrev pub IsMade : Lists → Port → Type 0
IsMade b p = (0 < p.0) × (p.0 ≤ length b.ports)

-- what stands for a port that was not made
abbrev pub no_port : PortLists
no_port = record { cap = 0; closed = false; buffer = [] }

-- the port's lists
abbrev pub port_at : Lists → Port → PortLists
port_at b p = slice_index_or b.ports (p.0 - 1) no_port

-- the board with the port's lists changed
abbrev pub with_port : Lists → Port → PortLists → Lists
with_port b p q = record b { ports = slice_set b.ports (p.0 - 1) q }

-- the port with one value more, the newest
abbrev pub pushed : Value → PortLists → PortLists
pushed v q = record { cap = q.cap; closed = q.closed; buffer = q.buffer ++ v ∷ [] }

-- the port without its oldest value
abbrev pub popped : PortLists → PortLists
popped q = record { cap = q.cap; closed = q.closed; buffer = drop 1 q.buffer }

-- the port, closed
abbrev pub closed_now : PortLists → PortLists
closed_now q = record { cap = q.cap; closed = true; buffer = q.buffer }

-- an empty and open port
abbrev pub new_port : ℕ → PortLists
new_port cap = record { cap = cap; closed = false; buffer = [] }

-- the board with a new port
abbrev pub with_new : ℕ → Lists → Lists
with_new cap b = record b { ports = b.ports ++ new_port cap ∷ [] }

-- an open call under its ticket
abbrev pub ticketed : Pid → ℕ → List Case → Ticketed
ticketed pid ticket cases = record { ticket = ticket; call = record { pid = pid; cases = cases } }

-- the calls with one more, the newest
abbrev pub with_call : Pid → ℕ → List Case → Calls → Calls
with_call pid ticket cases c =
    record { procs = c.procs; waiting = c.waiting ++ ticketed pid ticket cases ∷ []; next_ticket = ticket + 1 }

-- the board with one more open call, the newest
abbrev pub parked : Pid → ℕ → List Case → Lists → Lists
parked pid ticket cases b =
    record { procs = b.procs; ports = b.ports; waiting = b.waiting ++ ticketed pid ticket cases ∷ []; next_ticket = ticket + 1 }
