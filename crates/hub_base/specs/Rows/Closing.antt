-- What a close does: to values, to calls that wait, and to later calls.
-- Go: "Close", "Receive operator", "Send statements".
use Rattle.std.specs.Prelude.{◌≡◌, true, false, List, [], ◌∷◌, Some, refl}
use Rattle.hub_base.specs.Entry.{Entry}
use Rattle.hub_base.specs.declared.event.Outcome.TheVariants.{Sent, Drained, Closed}
use Rattle.hub_base.specs.declared.fault.Fault.TheVariants.{AlreadyClosed}
use Rattle.hub_base.specs.Value.{value_of}
use Rattle.hub_base.specs.State.{channel_at}
use Rattle.hub_base.specs.Notation.{procs, port, s, r, make, select, send, recv, close, made, case, got, done, parked, faulted}
use Rattle.hub_base.specs.Runs.{events, state}

-- a port that is closed with a value in it, drained, and used after that
abbrev close_and_drain : List Entry
close_and_drain =
    make 0 2 ∷ send 0 1 7 ∷ close 0 1 ∷ recv 0 1 ∷ recv 0 1 ∷ send 0 1 8 ∷ close 0 1 ∷ []

-- a closed port gives what was sent before, then no more; a send is answered `Closed`, a second
-- close is a fault
pub close_then_drain :
    events (procs 1) close_and_drain
    ≡ made 0 1 ∷ case 0 0 Sent ∷ done 0 ∷ case 0 0 (got 7) ∷ case 0 0 Drained
    ∷ case 0 0 Closed ∷ faulted 0 AlreadyClosed ∷ []
close_then_drain = refl

-- of it one value stays sent and received
pub drained_port :
    channel_at (state (procs 1) close_and_drain) (port 1)
    ≡ Some (record { cap = 2; closed = true; sent = value_of 7 ∷ []; received = 1 })
drained_port = refl

-- receivers that wait are told so, in order of arrival
pub close_ends_receivers :
    events (procs 3) (make 0 0 ∷ recv 2 1 ∷ recv 1 1 ∷ close 0 1 ∷ [])
    ≡ made 0 1 ∷ parked 2 ∷ parked 1 ∷ done 0 ∷ case 2 0 Drained ∷ case 1 0 Drained ∷ []
close_ends_receivers = refl

-- a sender that waits is answered `Closed`, and the buffer stays
pub close_keeps_the_buffer :
    events (procs 2) (make 0 1 ∷ send 1 1 3 ∷ send 1 1 4 ∷ close 0 1 ∷ recv 0 1 ∷ recv 0 1 ∷ [])
    ≡ made 0 1 ∷ case 1 0 Sent ∷ parked 1 ∷ done 0 ∷ case 1 0 Closed
    ∷ case 0 0 (got 3) ∷ case 0 0 Drained ∷ []
close_keeps_the_buffer = refl

-- a select that waits ends at its lowest case on the port
pub close_ends_a_select_at_its_lowest_case :
    events (procs 2) (make 0 0 ∷ select 1 0 (s 1 4 ∷ r 1 ∷ []) false ∷ close 0 1 ∷ [])
    ≡ made 0 1 ∷ parked 1 ∷ done 0 ∷ case 1 0 Closed ∷ []
close_ends_a_select_at_its_lowest_case = refl
