-- Which cases can proceed, told from a board's lists. Go: "Send statements", "Receive operator".
use Rattle.std.specs.Prelude.{ℕ, ◌%◌, ◌≤◌, ◌<◌, ◌≡◌, ◌==◌, nat_lt, not, ◌&&◌, ◌||◌, Bool, false, is_some, Option, None, List, length, filter, slice_get}
use Rattle.std.specs.List.{enumerate_from}
use Rattle.hub_base.specs.declared.value.Port.{Port}
use Rattle.hub_base.specs.declared.case.Case.{Case}
use Rattle.hub_base.specs.declared.case.Case.TheVariants.{Send, Recv}
use Rattle.hub_base.specs.Ready.{Ending, first_with, is_recv_on, is_send_on}
use Rattle.hub_parts.specs.Records.{Lists}
use Rattle.hub_parts.specs.Lists.{port_at, open_calls}

-- the oldest receiver that waits on the port
abbrev pub receiver_on : Lists → Port → Option Ending
receiver_on b p = first_with (is_recv_on p) (open_calls b.waiting)

-- the oldest sender that waits on the port
abbrev pub sender_on : Lists → Port → Option Ending
sender_on b p = first_with (is_send_on p) (open_calls b.waiting)

-- how many values the port's buffer holds
abbrev pub len_on : Lists → Port → ℕ
len_on b p = length (port_at b p).buffer

-- the case can proceed
abbrev pub can_on : Lists → Case → Bool
can_on b (Send p v) =
    not (p.0 == 0)
    && ((port_at b p).closed || is_some (receiver_on b p) || nat_lt (len_on b p) (port_at b p).cap)
can_on b (Recv p) =
    not (p.0 == 0)
    && (is_some (sender_on b p) || nat_lt 0 (len_on b p) || (port_at b p).closed)

-- the cases that can proceed, in order, each with its number
abbrev pub ready_on : Lists → List Case → List (ℕ × Case)
ready_on b cases = filter (λ x. can_on b x.1) (enumerate_from 0 cases)

-- the number that comes with a case
abbrev pub number_of : ℕ × Case → ℕ
number_of x = x.0

-- the case that the word chooses among those that can proceed, with its number
abbrev pub chosen_on : Lists → List Case → ℕ → Option (ℕ × Case)
chosen_on b cases word = slice_get (ready_on b cases) (word % length (ready_on b cases))

-- a send that fires finds the port closed, a receiver, or room
abbrev pub SendFits : Lists → Port → Type 0
SendFits b p =
    ((port_at b p).closed ≡ false) → (receiver_on b p ≡ None) → len_on b p < (port_at b p).cap

-- the buffer holds no more than its port's capacity
abbrev pub BufferFits : Lists → Port → Type 0
BufferFits b p = len_on b p ≤ (port_at b p).cap
