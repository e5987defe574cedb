-- What every board keeps: in each queue the live entries are the cases of the open calls on its side of its port,
-- and there is room for the cases of one call more.
use Rattle.std.specs.Prelude.{ℕ, ◌≤◌, ◌<◌, ◌≡◌, ◌*◌, Bool, List, [], ◌∷◌, length, map}
use Rattle.std.specs.List.{AllByRecursion}
use Rattle.circular_buffer.specs.Buffer.{Buffer}
use Rattle.hub_base.specs.declared.value.Port.{Port}
use Rattle.hub_base.specs.declared.value.Pid.{Pid}
use Rattle.hub_base.specs.declared.case.Case.{Case}
use Rattle.hub_base.specs.Ready.{port_of}
use Rattle.hub_base.specs.declared.limits.TheConstants.{CASE_PLACES, MOST_PORTS}
use Rattle.hub_parts.specs.declared.wait_queue.TheConstants.{PLACES}
use Rattle.hub_parts.specs.declared.side.Side.{Side}
use Rattle.hub_parts.specs.declared.wait_queue.Waiter.{Waiter}
use Rattle.hub_parts.specs.Records.{Ticketed, Calls, ChannelLists, Lists}
use Rattle.hub_parts.specs.Queues.{live_of, waiters}
use Rattle.hub_parts.specs.Lists.{still_open, passes}
use Rattle.hub_parts.specs.Channels.{queue_of, channel_of}

-- a queue's live entries are those of the calls' cases that pass; no entry has a ticket that is still to come
pub record QueueKeeps (test : Case → Bool) (c : Calls) (q : Buffer Waiter) : Type 0 where
  pub live : live_of c.waiting q.items ≡ waiters test c.waiting
  pub below : AllByRecursion (λ entry. entry.ticket < c.next_ticket) q.items
  pub places : q.capacity ≡ PLACES * c.procs
  pub fits : length q.items ≤ q.capacity

-- the tickets rise
abbrev pub Ascending : List Ticketed → Type 0
Ascending [] = Unit {0}
Ascending (w ∷ ws) = AllByRecursion (λ v. w.ticket < v.ticket) ws × Ascending ws

-- each case is on no port, or on one of the first n
abbrev pub AllMade : ℕ → List Case → Type 0
AllMade n cases = AllByRecursion (λ c. (port_of c).0 ≤ n) cases

-- the ports and the open calls are few, and so are the cases of each call, which are on ports that were made;
-- tickets rise and are below the next
pub record CallsKeep (c : Calls) (ports : ℕ) : Type 0 where
  pub counted : ports ≤ MOST_PORTS
  pub few : length c.waiting ≤ c.procs
  pub small : AllByRecursion (λ w. length w.call.cases ≤ CASE_PLACES) c.waiting
  pub made : AllByRecursion (λ w. AllMade ports w.call.cases) c.waiting
  pub ascending : Ascending c.waiting
  pub below : AllByRecursion (λ w. w.ticket < c.next_ticket) c.waiting

-- both queues of every port keep it
abbrev pub QueuesKeep : Calls → List ChannelLists → Type 0
QueuesKeep c cs = (s : Side) (p : Port) → 0 < p.0 → p.0 ≤ length cs → QueueKeeps (passes p s) c (queue_of s (channel_of cs p))

-- the open calls and the queues of a board
pub record BoardKeeps (c : Calls) (cs : List ChannelLists) : Type 0 where
  pub calls : CallsKeep c (length cs)
  pub queues : QueuesKeep c cs

-- the calls but for that of a process
abbrev pub without_call : Pid → Calls → Calls
without_call pid c = record { procs = c.procs; waiting = still_open pid c.waiting; next_ticket = c.next_ticket }

-- a board is its ports without their queues, and the open calls
abbrev pub board_lists : Calls → List ChannelLists → Lists
board_lists c cs = record { procs = c.procs; ports = map (λ ch. ch.lists) cs; waiting = c.waiting; next_ticket = c.next_ticket }
