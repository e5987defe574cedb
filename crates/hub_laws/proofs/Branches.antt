-- The two branches of a send and of a stall, for any fact of what follows.
use Rattle.hub_laws.proofs.Prelude.{arith, ◌≡◌, true, false, List, [], ◌++◌, Some, cond, filter_map, Event, Closed, Port, Value, is_recv_on, first_with, State}
use Rattle.hub_laws.proofs.Prelude.{Channel, OpenCall, Change, tells, stalls, Firing, after_send, send_meets, send_fires, all_wait}
use Rattle.hub_base.specs.declared.event.What.TheVariants as what

-- a send on a closed port
abbrev pub refused_send : State → Firing
refused_send s = record { outcome = Closed; state = s; ended = [] }

pub by-closed : (P : Firing → Type 0) (s : State) (p : Port) (v : Value) (c : Channel) → (c.closed ≡ true → P (refused_send s))
    → (c.closed ≡ false → P (send_meets s p (after_send v c) (first_with (is_recv_on p) s.parked))) → P (send_fires s p v c)
by-closed P s p v c over live = grind arith

-- what the calls are told that a stall ends
abbrev pub stall_events : List OpenCall → List Event
stall_events calls = filter_map (λ call. Some (tells call.pid what.Stalled)) calls

-- what follows where all wait
abbrev pub stalled : Change → Change
stalled c = record { state = record c.state { parked = [] }; events = c.events ++ stall_events c.state.parked }

pub by-stall : (P : Change → Type 0) (c : Change) → P (stalled c) → P c → P (stalls c)
by-stall P c all some = elim (all_wait c.state) as (λ b. P (cond b (stalled c) c)) [ true ↦ all | false ↦ some ]
