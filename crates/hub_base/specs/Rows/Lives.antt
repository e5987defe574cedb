-- Starts and reopens, in the third edition: processes and ports come back. They are this project's own.
use Rattle.std.specs.Prelude.{◌≡◌, List, [], ◌∷◌, length, refl, Some}
use Rattle.hub_base.specs.Entry.{Entry}
use Rattle.std.specs.Option.{option_map}
use Rattle.hub_base.specs.declared.event.Outcome.TheVariants.{Sent, Drained, Closed}
use Rattle.hub_base.specs.declared.fault.Fault.TheVariants.{NoProcess, Gone, NoPort, BadCap, NilClose, AlreadyClosed, InUse, NotGone}
use Rattle.hub_base.specs.State.{channel_at}
use Rattle.hub_base.specs.Values.{sent_values}
use Rattle.hub_base.specs.Value.{value_of}
use Rattle.hub_base.specs.Notation.{procs_three, port, make, send, recv, close, exit, start, reopen, made, case, got, done}
use Rattle.hub_base.specs.Notation.{parked, stalled, faulted}
use Rattle.hub_base.specs.Runs.{events, state}

-- a worker exits, is started again, and makes steps again
pub process_comes_back :
    events (procs_three 2) (make 0 1 ∷ exit 1 ∷ send 1 1 7 ∷ start 0 1 ∷ send 1 1 8 ∷ recv 0 1 ∷ [])
    ≡ made 0 1 ∷ done 1 ∷ faulted 1 Gone ∷ done 0 ∷ case 1 0 Sent ∷ case 0 0 (got 8) ∷ []
process_comes_back = refl

-- a process that was started counts among those that must wait before calls stall
pub started_process_is_waited_for :
    events (procs_three 2) (make 0 0 ∷ exit 1 ∷ start 0 1 ∷ recv 0 1 ∷ recv 1 1 ∷ [])
    ≡ made 0 1 ∷ done 1 ∷ done 0 ∷ parked 0 ∷ parked 1 ∷ stalled 0 ∷ stalled 1 ∷ []
started_process_is_waited_for = refl

-- without the start the first call stalls at once
pub exited_process_is_not :
    events (procs_three 2) (make 0 0 ∷ exit 1 ∷ recv 0 1 ∷ [])
    ≡ made 0 1 ∷ done 1 ∷ parked 0 ∷ stalled 0 ∷ []
exited_process_is_not = refl

-- it may exit and come back as often as one likes
pub process_comes_back_twice :
    events (procs_three 2) (exit 1 ∷ start 0 1 ∷ exit 1 ∷ start 0 1 ∷ exit 1 ∷ make 1 1 ∷ [])
    ≡ done 1 ∷ done 0 ∷ done 1 ∷ done 0 ∷ done 1 ∷ faulted 1 Gone ∷ []
process_comes_back_twice = refl

-- only a process that has exited is started: not one that is there, the caller neither, and none beyond their number
pub starts_are_faulty :
    events (procs_three 2) (start 0 1 ∷ start 0 0 ∷ start 0 9 ∷ exit 0 ∷ start 0 0 ∷ start 5 0 ∷ [])
    ≡ faulted 0 NotGone ∷ faulted 0 NotGone ∷ faulted 0 NotGone ∷ done 0 ∷ faulted 0 Gone ∷ faulted 5 NoProcess ∷ []
starts_are_faulty = refl

-- a reply channel is closed, drained and opened again, with another capacity; the number is the same, and no make is told
pub port_comes_back :
    events (procs_three 2) (
    make 0 1 ∷ send 0 1 5 ∷ close 0 1 ∷ recv 1 1 ∷ recv 1 1 ∷ reopen 0 1 2
    ∷ send 0 1 6 ∷ send 0 1 7 ∷ recv 1 1 ∷ recv 1 1 ∷ make 0 0 ∷ [])
    ≡ made 0 1 ∷ case 0 0 Sent ∷ done 0 ∷ case 1 0 (got 5) ∷ case 1 0 Drained ∷ done 0
    ∷ case 0 0 Sent ∷ case 0 0 Sent ∷ case 1 0 (got 6) ∷ case 1 0 (got 7) ∷ made 0 2 ∷ []
port_comes_back = refl

-- who receives from it then waits for a value
pub receiver_waits_again :
    events (procs_three 2) (make 0 0 ∷ close 0 1 ∷ reopen 0 1 0 ∷ recv 1 1 ∷ send 0 1 3 ∷ [])
    ≡ made 0 1 ∷ done 0 ∷ done 0 ∷ parked 1 ∷ case 0 0 Sent ∷ case 1 0 (got 3) ∷ []
receiver_waits_again = refl

-- until then it is closed, for senders too
pub closed_until_it_is_opened :
    events (procs_three 1) (make 0 1 ∷ close 0 1 ∷ send 0 1 1 ∷ reopen 0 1 1 ∷ send 0 1 2 ∷ close 0 1 ∷ close 0 1 ∷ [])
    ≡ made 0 1 ∷ done 0 ∷ case 0 0 Closed ∷ done 0 ∷ case 0 0 Sent ∷ done 0 ∷ faulted 0 AlreadyClosed ∷ []
closed_until_it_is_opened = refl

-- a port that is open, or holds a value, one that was not made, and the nil port are not opened; a capacity has its limit
pub reopens_are_faulty :
    events (procs_three 1) (
    make 0 1 ∷ reopen 0 1 1 ∷ send 0 1 4 ∷ close 0 1 ∷ reopen 0 1 1 ∷ reopen 0 2 1 ∷ reopen 0 0 1 ∷ reopen 0 1 1025
    ∷ reopen 0 2 1025 ∷ reopen 0 0 1025 ∷ [])
    ≡ made 0 1 ∷ faulted 0 InUse ∷ case 0 0 Sent ∷ done 0 ∷ faulted 0 InUse ∷ faulted 0 NoPort ∷ faulted 0 NilClose ∷ faulted 0 BadCap
    ∷ faulted 0 NoPort ∷ faulted 0 BadCap ∷ []
reopens_are_faulty = refl

-- counts go on, so the values that were received, and then those that are buffered, are still those that were sent
pub values_of_both_lives :
    sent_values (procs_three 1) (make 0 1 ∷ send 0 1 5 ∷ recv 0 1 ∷ close 0 1 ∷ reopen 0 1 1 ∷ send 0 1 6 ∷ []) (port 1)
    ≡ value_of 5 ∷ value_of 6 ∷ []
values_of_both_lives = refl

abbrev second_life : List Entry
second_life = make 0 1 ∷ send 0 1 5 ∷ recv 0 1 ∷ close 0 1 ∷ reopen 0 1 7 ∷ send 0 1 6 ∷ []

pub capacity_of_the_second_life : option_map (λ c. c.cap) (channel_at (state (procs_three 1) second_life) (port 1)) ≡ Some 7
capacity_of_the_second_life = refl

pub sends_of_both_lives : option_map (λ c. length c.sent) (channel_at (state (procs_three 1) second_life) (port 1)) ≡ Some 2
sends_of_both_lives = refl

pub receives_of_both_lives : option_map (λ c. c.received) (channel_at (state (procs_three 1) second_life) (port 1)) ≡ Some 1
receives_of_both_lives = refl
