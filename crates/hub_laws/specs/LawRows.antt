-- Worked rows of the words that the laws are stated in: none of them is empty.
use Rattle.std.specs.Prelude.{◌≡◌, true, false, List, [], ◌∷◌, length, filter, not, Some, None, refl}
use Rattle.std.specs.Option.{option_map}
use Rattle.hub_base.specs.Entry.{Entry}
use Rattle.hub_base.specs.declared.event.Outcome.TheVariants.{Sent, Drained}
use Rattle.hub_base.specs.declared.fault.Fault.TheVariants as fault
use Rattle.hub_base.specs.declared.event.What.TheVariants as what
use Rattle.hub_base.specs.State.{channel_at, buffer_of}
use Rattle.hub_base.specs.Ready.{is_recv_on, is_send_on}
use Rattle.hub_base.specs.Runs.{state, moves, events, kept}
use Rattle.hub_base.specs.Values.{turns_after}
use Rattle.hub_base.specs.Text.{steps_of}
use Rattle.hub_base.specs.Value.{value_of}
use Rattle.hub_base.specs.Notation.{procs, procs_three, port, s, r, make, send, recv, close, exit, start, reopen, select, case, told, got}
use Rattle.hub_laws.specs.Sound.{some_call}
use Rattle.hub_laws.specs.Once.{endings, endings_until, ends_call, is_refusal}
use Rattle.hub_laws.specs.AfterClose.{told_later, sent_at, heard, answers_done, opens_again}
use Rattle.hub_laws.specs.Answers.{is_answer_to}
use Rattle.hub_laws.specs.Replies.{own, reply}
use Rattle.hub_laws.specs.Journals.{IsLegal}
use Rattle.hub_laws.specs.Limits.{exits_of, starts_of, all_starts}
use Rattle.hub_laws.specs.OnePort.{touched, changed, number_of}
use Rattle.hub_laws.specs.Received.{got_at, received_on}

-- ---- states

-- a call that waits in both directions of one port
abbrev both_wait : List Entry
both_wait = make 0 0 ∷ select 1 0 (s 1 4 ∷ r 1 ∷ []) false ∷ []

pub receiver_row : some_call (is_recv_on (port 1)) (state (procs 2) both_wait).parked ≡ true
receiver_row = refl

pub sender_row : some_call (is_send_on (port 1)) (state (procs 2) both_wait).parked ≡ true
sender_row = refl

-- ---- after a close

-- a port with two values, one of them received, that is closed and drained
abbrev until_close : List Entry
until_close = make 0 2 ∷ send 0 1 7 ∷ send 0 1 8 ∷ recv 1 1 ∷ close 0 1 ∷ []

abbrev then_drained : List Entry
then_drained = recv 1 1 ∷ send 0 1 9 ∷ recv 0 1 ∷ recv 1 1 ∷ []

pub closed_row : told_later (heard (port 1)) (procs 2) until_close then_drained ≡ got 8 ∷ Drained ∷ Drained ∷ []
closed_row = refl

pub unsent_row : told_later (sent_at (port 1)) (procs 2) until_close then_drained ≡ []
unsent_row = refl

-- without the close the send completes
pub sent_row : told_later (sent_at (port 1)) (procs 2) (make 0 2 ∷ []) (send 0 1 9 ∷ recv 0 1 ∷ []) ≡ s 1 9 ∷ []
sent_row = refl

pub done_row : answers_done (moves (state (procs 2) (make 0 2 ∷ [])) (close 0 1)).events ≡ true
done_row = refl

-- a port that is opened again takes values again; a reopen that is told a fault does not count
abbrev drained : List Entry
drained = make 0 1 ∷ close 0 1 ∷ []

pub again_row : opens_again (port 1) (turns_after (state (procs_three 1) drained) (send 0 1 3 ∷ reopen 0 1 1 ∷ [])) ≡ true
again_row = refl

pub not_again_row : opens_again (port 1) (turns_after (state (procs_three 1) drained) (reopen 0 1 2000 ∷ reopen 0 2 1 ∷ [])) ≡ false
not_again_row = refl

pub sent_again_row : told_later (sent_at (port 1)) (procs_three 1) drained (reopen 0 1 1 ∷ send 0 1 9 ∷ []) ≡ s 1 9 ∷ []
sent_again_row = refl

-- ---- at most one event

-- a select that waits on two ports fires at one of them, once; while it waits, its process is told
-- `Busy`
abbrev two_ports : List Entry
two_ports = make 0 0 ∷ make 0 0 ∷ []

abbrev either : Entry
either = select 1 0 (r 1 ∷ r 2 ∷ []) false

abbrev then_sent : List Entry
then_sent = recv 1 1 ∷ send 0 2 8 ∷ send 0 1 9 ∷ recv 1 1 ∷ send 0 2 3 ∷ []

pub once_row : endings 1 (moves (state (procs 3) two_ports) either).events ≡ []
once_row = refl

pub until_row : endings_until 1 (turns_after (moves (state (procs 3) two_ports) either).state then_sent) ≡ case 1 1 (got 8) ∷ []
until_row = refl

-- a call that parks and stalls in one step, one that takes its default, and one that is faulty
pub stalled_row : endings 0 (moves (state (procs 1) (make 0 0 ∷ [])) (recv 0 1)).events ≡ told 0 what.Stalled ∷ []
stalled_row = refl

abbrev try_recv : Entry
try_recv = select 0 0 (r 1 ∷ []) true

pub default_row : endings 0 (moves (state (procs 1) (make 0 0 ∷ [])) try_recv).events ≡ told 0 what.Default ∷ []
default_row = refl

pub faulty_row : endings 0 (moves (state (procs 1) []) (recv 0 1)).events ≡ told 0 (what.Fault fault.NoPort) ∷ []
faulty_row = refl

pub no_end_row : ends_call what.Done ≡ false
no_end_row = refl

-- ---- answers

pub answer_row : is_answer_to (recv 0 1).step what.Parked ≡ true
answer_row = refl

pub no_answer_row : is_answer_to (recv 0 1).step what.Done ≡ false
no_answer_row = refl

-- ---- the one port that is written

pub fired_row : touched (procs 2) (make 0 1 ∷ make 0 1 ∷ send 0 2 5 ∷ []) either ≡ Some (port 2)
fired_row = refl

pub made_row : touched (procs 1) (make 0 1 ∷ []) (make 0 3) ≡ Some (port 2)
made_row = refl

pub shut_row : touched (procs 1) (make 0 1 ∷ []) (close 0 1) ≡ Some (port 1)
shut_row = refl

pub parked_row : touched (procs 2) (make 0 1 ∷ []) (recv 1 1) ≡ None
parked_row = refl

pub passed_row : touched (procs 1) (make 0 0 ∷ []) try_recv ≡ None
passed_row = refl

-- who waits for ever is told so, and no port is written
pub stalls_row : touched (procs 2) (make 0 0 ∷ recv 1 1 ∷ []) (recv 0 1) ≡ None
stalls_row = refl

pub gone_row : touched (procs 1) [] (exit 0) ≡ None
gone_row = refl

pub fault_row : touched (procs 1) [] (close 0 1) ≡ None
fault_row = refl

pub refused_row : touched (procs 1) (exit 0 ∷ []) (make 0 1) ≡ None
refused_row = refl

pub number_row : number_of (touched (procs 1) (exit 0 ∷ []) (make 0 1)) ≡ 0
number_row = refl

pub opened_row : touched (procs_three 1) (make 0 1 ∷ close 0 1 ∷ []) (reopen 0 1 4) ≡ Some (port 1)
opened_row = refl

pub started_row : touched (procs_three 2) (exit 1 ∷ []) (start 0 1) ≡ None
started_row = refl

-- and changed
pub writes_row : changed (procs 1) (make 0 1 ∷ []) (send 0 1 5) ≡ Some (port 1)
writes_row = refl

-- a case that finds its port closed changes none
pub found_closed_row : changed (procs 1) (make 0 1 ∷ close 0 1 ∷ []) (send 0 1 5) ≡ None
found_closed_row = refl

pub found_drained_row : changed (procs 1) (make 0 1 ∷ close 0 1 ∷ []) (recv 0 1) ≡ None
found_drained_row = refl

-- ---- replies

abbrev until_met : List Entry
until_met = make 0 0 ∷ recv 1 1 ∷ send 0 1 5 ∷ []

pub own_row : own 0 until_met ≡ make 0 0 ∷ send 0 1 5 ∷ []
own_row = refl

pub caller_row : reply 0 (procs 2) until_met ≡ Some (case 0 0 Sent)
caller_row = refl

pub ended_row : reply 1 (procs 2) until_met ≡ Some (case 1 0 (got 5))
ended_row = refl

-- while it waits it has none
pub waits_row : reply 1 (procs 2) (make 0 0 ∷ recv 1 1 ∷ []) ≡ None
waits_row = refl

pub stall_row : reply 1 (procs 2) (make 0 0 ∷ recv 1 1 ∷ exit 0 ∷ []) ≡ Some (told 1 what.Stalled)
stall_row = refl

pub own_stall_row : reply 0 (procs 1) (make 0 0 ∷ recv 0 1 ∷ []) ≡ Some (told 0 what.Stalled)
own_stall_row = refl

-- ---- journals

-- an entry of a process that waits, and one of a process that there is not
abbrev with_refused : List Entry
with_refused = make 0 0 ∷ recv 1 1 ∷ recv 1 1 ∷ exit 7 ∷ send 0 1 5 ∷ []

pub kept_row : kept (procs 2) with_refused ≡ until_met
kept_row = refl

pub legal_row : IsLegal (procs 2) until_met
legal_row = refl

pub events_row : filter (λ x. not (is_refusal x.what)) (events (procs 2) with_refused) ≡ events (procs 2) until_met
events_row = refl

pub length_row : length (events (procs 2) with_refused) ≡ 6
length_row = refl

-- ---- limits and counts

pub exits_row : exits_of 0 (kept (procs 2) (exit 0 ∷ exit 0 ∷ exit 1 ∷ [])) ≡ exit 0 ∷ []
exits_row = refl

-- each start of a process lets it exit once more; one that is told a fault counts too
abbrev comes_back : List Entry
comes_back = exit 1 ∷ start 0 1 ∷ exit 1 ∷ start 0 1 ∷ start 0 1 ∷ []

pub exits_again_row : exits_of 1 (kept (procs_three 2) comes_back) ≡ exit 1 ∷ exit 1 ∷ []
exits_again_row = refl

pub starts_row : length (starts_of 1 (kept (procs_three 2) comes_back)) ≡ 3
starts_row = refl

pub no_start_row : all_starts (kept (procs 2) (exit 1 ∷ make 0 1 ∷ [])) ≡ []
no_start_row = refl

abbrev two_sent : List Entry
two_sent = make 0 2 ∷ send 0 1 7 ∷ send 0 1 8 ∷ recv 1 1 ∷ exit 1 ∷ []

pub steps_row : steps_of (kept (procs 2) two_sent) ≡ 4
steps_row = refl

pub count_row : option_map (λ c. length c.sent) (channel_at (state (procs 2) two_sent) (port 1)) ≡ Some 2
count_row = refl

pub buffer_row : option_map (λ c. buffer_of c) (channel_at (state (procs 2) two_sent) (port 1)) ≡ Some (value_of 8 ∷ [])
buffer_row = refl

-- ---- received values

-- process 1 waits on both ports, and process 0 sends on the second
abbrev until_handed : List Entry
until_handed = make 0 0 ∷ make 0 0 ∷ select 1 0 (r 1 ∷ r 2 ∷ []) false ∷ []

pub handed_row :
    got_at (touched (procs 2) until_handed (send 0 2 8)) (moves (state (procs 2) until_handed) (send 0 2 8)).events (port 2)
    ≡ value_of 8 ∷ []
handed_row = refl

pub other_port_row :
    got_at (touched (procs 2) until_handed (send 0 2 8)) (moves (state (procs 2) until_handed) (send 0 2 8)).events (port 1) ≡ []
other_port_row = refl

-- a value that is only buffered is not received
pub received_row : received_on (state (procs 2) two_sent) (port 1) ≡ value_of 7 ∷ []
received_row = refl

pub unmade_row : received_on (state (procs 2) two_sent) (port 2) ≡ []
unmade_row = refl
