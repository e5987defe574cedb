-- Which communications can proceed, and which of the waiting calls is served. A call is matched
-- with the calls that wait, never with itself. Go: "Send statements", "Receive operator".
use Rattle.std.specs.Prelude.{ℕ, ◌+◌, ◌-◌, ◌==◌, nat_lt, Bool, false, not, ◌||◌, List, [], ◌∷◌, length, filter, Option, None, Some, is_some, if◌then◌else◌}
use Rattle.std.specs.List.{enumerate_from}
use Rattle.std.specs.Option.{option_map, option_map_or}
use Rattle.hub_base.specs.declared.value.Pid.{Pid}
use Rattle.hub_base.specs.declared.value.Port.{Port}
use Rattle.hub_base.specs.declared.case.Case.{Case}
use Rattle.hub_base.specs.declared.case.Case.TheVariants.{Send, Recv}
use Rattle.hub_base.specs.State.{OpenCall, Channel, State, channel_at}

-- the case sends on the port
abbrev pub is_send_on : Port → Case → Bool
is_send_on p (Send q v) = q.0 == p.0
is_send_on p (Recv q) = false

-- the case receives on the port
abbrev pub is_recv_on : Port → Case → Bool
is_recv_on p (Send q v) = false
is_recv_on p (Recv q) = q.0 == p.0

-- the case communicates on the port
abbrev pub is_on : Port → Case → Bool
is_on p c = is_send_on p c || is_recv_on p c

-- the port of a case
abbrev pub port_of : Case → Port
port_of (Send p v) = p
port_of (Recv p) = p

-- a case with its place in its call
pub record Placed : Type 0 where
  pub index : ℕ
  pub case : Case

-- the first, where there is one, else the other
abbrev pub or_else : {A : Type 0} → Option A → Option A → Option A
or_else None other = other
or_else (Some x) other = Some x

-- the lowest-numbered case that passes, numbered from i on
abbrev pub lowest_from : ℕ → (Case → Bool) → List Case → Option Placed
lowest_from i test [] = None
lowest_from i test (c ∷ cs) =
    if test c then Some (record { index = i; case = c }) else lowest_from (i + 1) test cs

-- the lowest-numbered case that passes
abbrev pub lowest : (Case → Bool) → List Case → Option Placed
lowest test cases = lowest_from 0 test cases

-- a waiting call that ends, at one of its cases
pub record Ending : Type 0 where
  pub pid : Pid
  pub at : Placed

-- the oldest waiting call with a case that passes, at its lowest such case
abbrev pub first_with : (Case → Bool) → List OpenCall → Option Ending
first_with test [] = None
first_with test (call ∷ calls) =
    or_else
    (option_map (λ c. record { pid = call.pid; at = c }) (lowest test call.cases))
    (first_with test calls)

-- the waiting calls but for this process's
abbrev pub without : Pid → List OpenCall → List OpenCall
without pid calls = filter (λ call. not (call.pid.0 == pid.0)) calls

-- a send can proceed on a closed port, where a receiver waits, and where there is room
abbrev pub send_can : State → Port → Channel → Bool
send_can s p c =
    c.closed || is_some (first_with (is_recv_on p) s.parked) || nat_lt (length c.sent - c.received) c.cap

-- a receive can proceed where a sender waits, where a value is left, and on a closed port
abbrev pub recv_can : State → Port → Channel → Bool
recv_can s p c =
    is_some (first_with (is_send_on p) s.parked) || nat_lt c.received (length c.sent) || c.closed

-- on port 0, and on a port that was not made, nothing can. Go: a nil channel is never ready
abbrev pub can_proceed : State → Case → Bool
can_proceed s (Send p v) = option_map_or (send_can s p) (channel_at s p) false
can_proceed s (Recv p) = option_map_or (recv_can s p) (channel_at s p) false

-- the cases that can proceed, in order, each with its place
abbrev pub ready : State → List Case → List (ℕ × Case)
ready s cases = filter (λ c. can_proceed s c.1) (enumerate_from 0 cases)
