-- Channels with a buffer: a queue of values, first in, first out. Go: "Channel types", "Send
-- statements".
use Rattle.std.specs.Prelude.{◌≡◌, [], ◌∷◌, refl}
use Rattle.hub_base.specs.declared.event.Outcome.TheVariants.{Sent}
use Rattle.hub_base.specs.Notation.{procs, make, send, recv, made, case, got, parked}
use Rattle.hub_base.specs.Runs.{events}

-- without a step nobody is told anything
pub no_steps : events (procs 1) [] ≡ []
no_steps = refl

-- a send succeeds while there is room, and a receive gives the oldest value
pub oldest_value_first :
    events (procs 2) (make 0 2 ∷ send 0 1 10 ∷ send 0 1 11 ∷ recv 1 1 ∷ [])
    ≡ made 0 1 ∷ case 0 0 Sent ∷ case 0 0 Sent ∷ case 1 0 (got 10) ∷ []
oldest_value_first = refl

-- a sender that waits for room enters the buffer as soon as a value is taken
pub full_buffer_lets_the_sender_in :
    events (procs 2) (make 0 1 ∷ send 0 1 5 ∷ send 0 1 6 ∷ recv 1 1 ∷ recv 1 1 ∷ [])
    ≡ made 0 1 ∷ case 0 0 Sent ∷ parked 0 ∷ case 1 0 (got 5) ∷ case 0 0 Sent ∷ case 1 0 (got 6) ∷ []
full_buffer_lets_the_sender_in = refl
