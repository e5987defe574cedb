-- The cases that can proceed on the lists are those that can in the meaning.
use Rattle.std.proofs.Common.{◌≡◌, ℕ, zero, suc, ◌+◌, ◌-◌, ◌==◌, ◌<◌, ◌||◌, ◌&&◌, not, nat_lt, Bool, true, false}
use Rattle.std.proofs.Common.{List, [], ◌∷◌, length, filter, refl, ap, ◌∙◌, sym, Some, arith, length-drop}
use Rattle.std.specs.Prelude.{slice_get, is_some}
use Rattle.std.specs.List.{list_any, enumerate_from}
use Rattle.std.specs.Option.{option_map_or}
use Rattle.std.proofs.lemmas.Grind.{common_steps}
use Rattle.std.proofs.lemmas.List.{length-map}
use Rattle.hub_base.specs.declared.value.Port.{Port}
use Rattle.hub_base.specs.declared.case.Case.{Case}
use Rattle.hub_base.specs.declared.case.Case.TheVariants.{Send, Recv}
use Rattle.hub_base.specs.State.{State, Channel, channel_at, buffer_of}
use Rattle.hub_base.specs.Ready.{first_with, is_recv_on, is_send_on, port_of, can_proceed, send_can, recv_can}
use Rattle.hub_base.specs.Steps.{is_unmade}
use Rattle.std.proofs.lemmas.Bool.{or_parts}
use Rattle.hub_parts.specs.Lists.{port_at, open_calls}
use Rattle.hub_core.specs.Records.{MachineLists}
use Rattle.hub_core.specs.ListReady.{can_on}
use Rattle.hub_core.specs.Follows.{lists_of, Matches}
use Rattle.hub_core.proofs.Ports.{port-lists_of}

-- ---- a port that is named and is not nil is made
pub get_within : {A : Type 0} (xs : List A) (i : ℕ) → i < length xs → (x : A) × (slice_get xs i ≡ Some x)
get_within [] i h = absurd (omega arith)
get_within (x ∷ xs) zero h = (x, refl)
get_within (x ∷ xs) (suc i) h = get_within xs i (omega arith)

within_ports : (ports p : ℕ) → nat_lt ports p ≡ false → (p == 0) ≡ false → p - 1 < ports
within_ports ports p named made = grind (arith, common_steps)

pub made_channel : (s : State) (p : Port) → is_unmade s p ≡ false → (p.0 == 0) ≡ false → (c : Channel) × (channel_at s p ≡ Some c)
made_channel s p named made =
    let found = get_within s.channels (p.0 - 1) (within_ports (length s.channels) p.0 named made) in
    (found.0, rw made found.1)

pub count-ports : (s : State) (m : MachineLists) → Matches s m → length m.board.ports ≡ length s.channels
count-ports s m h = ap length h.ports ∙ length-map s.channels lists_of

-- ---- one case
pub length-buffer_of : (c : Channel) → length (buffer_of c) ≡ length c.sent - c.received
length-buffer_of c = length-drop c.received c.sent

some_left : (a b : ℕ) → nat_lt 0 (a - b) ≡ nat_lt b a
some_left a b = grind (arith, common_steps)

send_as : (s : State) (m : MachineLists) (p : Port) (c : Channel) → Matches s m → channel_at s p ≡ Some c → ((port_at m.board p).closed || is_some
    (first_with (is_recv_on p) (open_calls m.board.waiting)) || nat_lt (length (port_at m.board p).buffer) (port_at m.board p).cap) ≡ send_can s p c
send_as s m p c h e = rw (port-lists_of s m p c h e, h.calls, length-buffer_of c) refl

recv_as : (s : State) (m : MachineLists) (p : Port) (c : Channel) → Matches s m → channel_at s p ≡ Some c
    → (is_some (first_with (is_send_on p) (open_calls m.board.waiting)) || nat_lt 0 (length (port_at m.board p).buffer) || (port_at m.board p).closed)
    ≡ recv_can s p c
recv_as s m p c h e = rw (port-lists_of s m p c h e, h.calls, length-buffer_of c, some_left (length c.sent) c.received) refl

can_by : (s : State) (m : MachineLists) (p : Port) (nil : Bool) (mine : Bool) (test : Channel → Bool) → (p.0 == 0) ≡ nil → is_unmade s p ≡ false
    → ((c : Channel) → channel_at s p ≡ Some c → mine ≡ test c) → (not nil && mine) ≡ option_map_or test (channel_at s p) false
can_by s m p true mine test is named same = rw is refl
can_by s m p false mine test is named same =
    let found = made_channel s p named is in
    same found.0 found.1 ∙ ap (λ o. option_map_or test o false) (sym found.1)

pub can_on-as : (s : State) (m : MachineLists) (k : Case) → Matches s m → is_unmade s (port_of k) ≡ false → can_on m.board k ≡ can_proceed s k
can_on-as s m (Send p v) h named = can_by s m p (p.0 == 0) _ (send_can s p) refl named (λ c e. send_as s m p c h e)
can_on-as s m (Recv p) h named = can_by s m p (p.0 == 0) _ (recv_can s p) refl named (λ c e. recv_as s m p c h e)

-- ---- all cases of a call
pub ready_on-as : (s : State) (m : MachineLists) (i : ℕ) (cases : List Case) → Matches s m → list_any (λ k. is_unmade s (port_of k)) cases ≡ false
    → filter (λ x. can_on m.board x.1) (enumerate_from i cases) ≡ filter (λ x. can_proceed s x.1) (enumerate_from i cases)
ready_on-as s m i [] h named = refl
ready_on-as s m i (k ∷ cases) h named =
    let parts = or_parts (is_unmade s (port_of k)) (list_any (λ k. is_unmade s (port_of k)) cases) named in
    rw (can_on-as s m k h parts.0, ready_on-as s m (i + 1) cases h parts.1) refl
