-- Faults: steps that change nothing, and the greatest numbers that are none. Those of closes stand
-- in `Closing` and `Leaving`, that of a waiting process in `Waiting`, that of too many cases in
-- `Selecting`.
use Rattle.std.specs.Prelude.{◌≡◌, [], ◌∷◌, ◌++◌, map, refl}
use Rattle.std.specs.List.{range_with_len}
use Rattle.hub_base.specs.declared.event.Outcome.TheVariants.{Sent}
use Rattle.hub_base.specs.declared.fault.Fault.TheVariants.{NoPort, BadCap, TooManyPorts}
use Rattle.hub_base.specs.Notation.{procs, make, send, recv, made, case, got, faulted}
use Rattle.hub_base.specs.Runs.{events}

-- the greatest capacity and the greatest value; a port that was not made
pub greatest_capacity_and_value :
    events (procs 1) (
    make 0 1024 ∷ make 0 1025 ∷ send 0 2 1
    ∷ send 0 1 18446744073709551615 ∷ recv 0 1 ∷ [])
    ≡ made 0 1 ∷ faulted 0 BadCap ∷ faulted 0 NoPort
    ∷ case 0 0 Sent ∷ case 0 0 (got 18446744073709551615) ∷ []
greatest_capacity_and_value = refl

-- the sixty-fifth port
pub sixty_four_ports_at_most :
    events (procs 1) (map (λ _. make 0 0) (range_with_len 0 65))
    ≡ map (made 0) (range_with_len 1 64) ++ faulted 0 TooManyPorts ∷ []
sixty_four_ports_at_most = refl
