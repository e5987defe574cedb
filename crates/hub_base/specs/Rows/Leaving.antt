-- Exits, and the stall rule: when everyone who has not exited waits, all waiting calls end. This is
-- this project's choice; Go's own program ends then.
use Rattle.std.specs.Prelude.{◌≡◌, [], ◌∷◌, refl}
use Rattle.hub_base.specs.declared.event.Outcome.TheVariants.{Sent}
use Rattle.hub_base.specs.declared.fault.Fault.TheVariants.{NoProcess, Gone, NilClose}
use Rattle.hub_base.specs.Notation.{procs, make, send, recv, close, exit, made, case, got, done, parked, stalled, faulted}
use Rattle.hub_base.specs.Runs.{events}

-- the only process waits, so nobody can ever meet it
pub lone_sender_stalls :
    events (procs 1) (make 0 0 ∷ send 0 1 1 ∷ [])
    ≡ made 0 1 ∷ parked 0 ∷ stalled 0 ∷ []
lone_sender_stalls = refl

-- the nil channel is never ready, and can't be closed. Go: "Channel types", "Close"
pub nil_channel :
    events (procs 1) (recv 0 0 ∷ close 0 0 ∷ [])
    ≡ parked 0 ∷ stalled 0 ∷ faulted 0 NilClose ∷ []
nil_channel = refl

-- an exit leaves the others alone; a process that has exited, or never was, makes no step
pub exit_stalls_who_is_left :
    events (procs 2) (make 0 0 ∷ recv 1 1 ∷ exit 0 ∷ recv 0 1 ∷ exit 7 ∷ [])
    ≡ made 0 1 ∷ parked 1 ∷ done 0 ∷ stalled 1 ∷ faulted 0 Gone ∷ faulted 7 NoProcess ∷ []
exit_stalls_who_is_left = refl

-- where no call waits nothing stalls
pub everyone_exits :
    events (procs 2) (make 0 0 ∷ exit 0 ∷ exit 1 ∷ [])
    ≡ made 0 1 ∷ done 0 ∷ done 1 ∷ []
everyone_exits = refl

-- a receive after the last value stalls
pub last_value_then_stall :
    events (procs 1) (make 0 1 ∷ send 0 1 5 ∷ recv 0 1 ∷ recv 0 1 ∷ [])
    ≡ made 0 1 ∷ case 0 0 Sent ∷ case 0 0 (got 5) ∷ parked 0 ∷ stalled 0 ∷ []
last_value_then_stall = refl

-- after a stall a process goes on
pub exit_after_a_stall :
    events (procs 1) (make 0 0 ∷ recv 0 1 ∷ exit 0 ∷ [])
    ≡ made 0 1 ∷ parked 0 ∷ stalled 0 ∷ done 0 ∷ []
exit_after_a_stall = refl
