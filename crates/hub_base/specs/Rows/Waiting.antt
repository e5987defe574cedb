-- Unbuffered channels: a send and a receive meet, and of the calls that wait the oldest is served.
-- Go: "Channel types", "Receive operator". That the oldest is served is this project's choice.
use Rattle.std.specs.Prelude.{◌≡◌, [], ◌∷◌, refl}
use Rattle.hub_base.specs.declared.event.Outcome.TheVariants.{Sent}
use Rattle.hub_base.specs.declared.fault.Fault.TheVariants.{Busy}
use Rattle.hub_base.specs.Notation.{procs, make, send, recv, made, case, got, parked, faulted}
use Rattle.hub_base.specs.Runs.{events}

-- a receiver waits until a sender comes
pub receiver_waits_for_a_sender :
    events (procs 2) (make 0 0 ∷ recv 1 1 ∷ send 0 1 9 ∷ [])
    ≡ made 0 1 ∷ parked 1 ∷ case 0 0 Sent ∷ case 1 0 (got 9) ∷ []
receiver_waits_for_a_sender = refl

-- receivers are served in the order in which they came
pub oldest_receiver_first :
    events (procs 3) (make 0 0 ∷ recv 2 1 ∷ recv 1 1 ∷ send 0 1 5 ∷ send 0 1 6 ∷ [])
    ≡ made 0 1 ∷ parked 2 ∷ parked 1 ∷ case 0 0 Sent ∷ case 2 0 (got 5)
    ∷ case 0 0 Sent ∷ case 1 0 (got 6) ∷ []
oldest_receiver_first = refl

-- and so are senders
pub oldest_sender_first :
    events (procs 3) (make 0 0 ∷ send 2 1 7 ∷ send 1 1 8 ∷ recv 0 1 ∷ recv 0 1 ∷ [])
    ≡ made 0 1 ∷ parked 2 ∷ parked 1 ∷ case 0 0 (got 7) ∷ case 2 0 Sent
    ∷ case 0 0 (got 8) ∷ case 1 0 Sent ∷ []
oldest_sender_first = refl

-- a process makes no step while its call waits: the step is refused, and the call goes on
pub waiting_process_is_busy :
    events (procs 2) (make 0 0 ∷ send 1 1 5 ∷ send 1 1 6 ∷ recv 0 1 ∷ [])
    ≡ made 0 1 ∷ parked 1 ∷ faulted 1 Busy ∷ case 0 0 (got 5) ∷ case 1 0 Sent ∷ []
waiting_process_is_busy = refl

-- a process does not meet itself
pub no_process_meets_itself :
    events (procs 2) (make 0 0 ∷ send 0 1 1 ∷ recv 0 1 ∷ [])
    ≡ made 0 1 ∷ parked 0 ∷ faulted 0 Busy ∷ []
no_process_meets_itself = refl
