-- The entries of a queue: which are live, what a taking, a joining and a making of room leave, and which entries
-- the open calls have.
use Rattle.std.specs.Prelude.{ℕ, ◌==◌, ◌+◌, ◌-◌, nat_lt, ◌&&◌, ◌||◌, Bool, List, [], ◌∷◌, ◌++◌, if◌then◌else◌, filter, length, Option, None, Some, slice_get}
use Rattle.std.specs.List.{list_any, flat_map}
use Rattle.circular_buffer.specs.Buffer.{Buffer, buffer}
use Rattle.hub_base.specs.declared.value.Pid.{Pid}
use Rattle.hub_base.specs.declared.case.Case.{Case}
use Rattle.hub_base.specs.declared.limits.TheConstants.{CASE_PLACES}
use Rattle.hub_parts.specs.declared.wait_queue.Waiter.{Waiter}
use Rattle.hub_parts.specs.Records.{Ticketed}

-- the process has an open call under this ticket
abbrev pub has_call : List Ticketed → ℕ → Pid → Bool
has_call ws ticket pid = list_any (λ w. (w.ticket == ticket) && (w.call.pid.0 == pid.0)) ws

-- the entry is live: its process has an open call under its ticket
abbrev pub lives : List Ticketed → Waiter → Bool
lives ws entry = has_call ws entry.ticket entry.pid

-- the live entries
abbrev pub live_of : List Ticketed → List Waiter → List Waiter
live_of ws q = filter (lives ws) q

-- what stands behind the first that passes
abbrev pub after_first : {X : Type 0} → (X → Bool) → List X → List X
after_first test [] = []
after_first test (x ∷ xs) = if test x then xs else after_first test xs

-- what stands from the first that passes on
abbrev pub from_first : {X : Type 0} → (X → Bool) → List X → List X
from_first test [] = []
from_first test (x ∷ xs) = if test x then x ∷ xs else from_first test xs

-- the first moved to the end where it passes, and else left out
abbrev pub turned : {X : Type 0} → (X → Bool) → List X → List X
turned test [] = []
turned test (x ∷ xs) = if test x then xs ++ x ∷ [] else xs

-- the queue without what stands before the first live entry, and without that
abbrev pub taken : List Ticketed → Buffer Waiter → Buffer Waiter
taken ws q = buffer (after_first (lives ws) q.items) q.capacity

-- the queue without the dead entries before its first live one
abbrev pub passed : List Ticketed → Buffer Waiter → Buffer Waiter
passed ws q = buffer (from_first (lives ws) q.items) q.capacity

-- the queue after its first entry was turned
abbrev pub one_turn : List Ticketed → Buffer Waiter → Buffer Waiter
one_turn ws q = buffer (turned (lives ws) q.items) q.capacity

-- the queue without its dead entries
abbrev pub all_live : List Ticketed → Buffer Waiter → Buffer Waiter
all_live ws q = buffer (live_of ws q.items) q.capacity

-- the queue with one entry more, the newest
abbrev pub joined : Waiter → Buffer Waiter → Buffer Waiter
joined entry q = buffer (q.items ++ entry ∷ []) q.capacity

-- where fewer places are free than a call may have cases, the live entries alone
abbrev pub roomy : List Ticketed → Buffer Waiter → Buffer Waiter
roomy ws q = if nat_lt (q.capacity - length q.items) CASE_PLACES then all_live ws q else q

-- the entry of case number i of a call
abbrev pub waiter_at : Pid → ℕ → ℕ → Waiter
waiter_at pid ticket i = record { pid = pid; ticket = ticket; case = i }

-- the entries of a call's cases that pass, from number i on
abbrev pub waiters_from : (Case → Bool) → Pid → ℕ → ℕ → List Case → List Waiter
waiters_from test pid ticket i [] = []
waiters_from test pid ticket i (c ∷ cs) =
    if test c then waiter_at pid ticket i ∷ waiters_from test pid ticket (i + 1) cs else waiters_from test pid ticket (i + 1) cs

-- the entries of a call's cases that pass, in case order
abbrev pub waiters_of : (Case → Bool) → Ticketed → List Waiter
waiters_of test w = waiters_from test w.call.pid w.ticket 0 w.call.cases

-- the entries of the open calls' cases that pass, oldest call first
abbrev pub waiters : (Case → Bool) → List Ticketed → List Waiter
waiters test ws = flat_map (waiters_of test) ws

-- the process of the call under this ticket
abbrev pub pid_at : List Ticketed → ℕ → Option Pid
pid_at [] ticket = None
pid_at (w ∷ ws) ticket = if w.ticket == ticket then Some w.call.pid else pid_at ws ticket

-- the case of this number in the call under this ticket
abbrev pub case_at : List Ticketed → ℕ → ℕ → Option Case
case_at [] ticket i = None
case_at (w ∷ ws) ticket i = if w.ticket == ticket then slice_get w.call.cases i else case_at ws ticket i

-- an entry comes before another: by ticket, and in one call by case
abbrev pub is_before : Waiter → Waiter → Bool
is_before a b = nat_lt a.ticket b.ticket || ((a.ticket == b.ticket) && nat_lt a.case b.case)
