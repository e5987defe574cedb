-- Cancels, in the second edition: a process ends the open call of another. They are this project's own.
use Rattle.std.specs.Prelude.{◌≡◌, true, false, List, [], ◌∷◌, refl}
use Rattle.hub_base.specs.Entry.{Entry}
use Rattle.hub_base.specs.declared.event.Outcome.TheVariants.{Sent}
use Rattle.hub_base.specs.declared.fault.Fault.TheVariants.{NoProcess, Gone, Busy, NotParked}
use Rattle.hub_base.specs.Values.{sent_values}
use Rattle.hub_base.specs.Notation.{procs_two, port, s, r, make, select, send, recv, cancel, exit, made, case, got, defaulted, done}
use Rattle.hub_base.specs.Notation.{parked, stalled, cancelled, faulted}
use Rattle.hub_base.specs.Runs.{events}

-- a select that waits is cancelled, once; nobody else has an open call, the caller neither
pub select_is_cancelled :
    events (procs_two 3) (
    make 0 0 ∷ select 1 0 (r 1 ∷ s 1 4 ∷ []) false ∷ cancel 0 1 ∷ cancel 0 1 ∷ cancel 0 0 ∷ cancel 0 9
    ∷ recv 2 1 ∷ send 0 1 5 ∷ [])
    ≡ made 0 1 ∷ parked 1 ∷ done 0 ∷ cancelled 1 ∷ faulted 0 NotParked ∷ faulted 0 NotParked
    ∷ faulted 0 NotParked ∷ parked 2 ∷ case 0 0 Sent ∷ case 2 0 (got 5) ∷ []
select_is_cancelled = refl

-- the oldest of two receivers is cancelled, so the other is served
pub cancelled_call_is_not_served :
    events (procs_two 3) (make 0 0 ∷ recv 1 1 ∷ recv 2 1 ∷ cancel 0 1 ∷ send 0 1 5 ∷ [])
    ≡ made 0 1 ∷ parked 1 ∷ parked 2 ∷ done 0 ∷ cancelled 1 ∷ case 0 0 Sent ∷ case 2 0 (got 5) ∷ []
cancelled_call_is_not_served = refl

-- a sender is cancelled, and the value that it brought
abbrev sender_is_cancelled : List Entry
sender_is_cancelled = make 0 0 ∷ send 1 1 7 ∷ cancel 0 1 ∷ select 0 0 (r 1 ∷ []) true ∷ []

pub cancelled_send_brings_no_value :
    events (procs_two 2) sender_is_cancelled
    ≡ made 0 1 ∷ parked 1 ∷ done 0 ∷ cancelled 1 ∷ defaulted 0 ∷ []
cancelled_send_brings_no_value = refl

pub no_value_of_a_cancelled_send : sent_values (procs_two 2) sender_is_cancelled (port 1) ≡ []
no_value_of_a_cancelled_send = refl

-- a process whose call was cancelled may make further steps
pub cancelled_process_goes_on :
    events (procs_two 2) (make 0 1 ∷ recv 1 1 ∷ cancel 0 1 ∷ send 1 1 3 ∷ recv 0 1 ∷ [])
    ≡ made 0 1 ∷ parked 1 ∷ done 0 ∷ cancelled 1 ∷ case 1 0 Sent ∷ case 0 0 (got 3) ∷ []
cancelled_process_goes_on = refl

-- a cancel is refused as any step is; a process that has exited has no open call
pub cancels_are_refused :
    events (procs_two 2) (
    make 0 0 ∷ recv 1 1 ∷ cancel 1 1 ∷ cancel 2 1 ∷ exit 0 ∷ cancel 0 1 ∷ cancel 1 0 ∷ [])
    ≡ made 0 1 ∷ parked 1 ∷ faulted 1 Busy ∷ faulted 2 NoProcess ∷ done 0 ∷ stalled 1
    ∷ faulted 0 Gone ∷ faulted 1 NotParked ∷ []
cancels_are_refused = refl
