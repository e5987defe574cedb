-- What holds of every state that a run reaches.
use Rattle.std.specs.Prelude.{◌≡◌, ◌≤◌, ◌<◌, ◌+◌, ◌==◌, nat_lt, ℕ, Bool, true, false, List, [], ◌∷◌, length, Some}
use Rattle.std.specs.List.{list_any, AllByRecursion}
use Rattle.hub_base.specs.declared.value.Port.{Port}
use Rattle.hub_base.specs.declared.case.Case.{Case}
use Rattle.hub_base.specs.declared.head.Edition.{Edition}
use Rattle.hub_base.specs.Head.{most_cases}
use Rattle.hub_base.specs.State.{State, Channel, OpenCall, channel_at}
use Rattle.hub_base.specs.Ready.{is_send_on, is_recv_on, port_of}
use Rattle.hub_base.specs.Steps.{is_waiting, has_gone}

-- whether some of these calls has a case that passes
abbrev pub some_call : (Case → Bool) → List OpenCall → Bool
some_call test calls = list_any (λ call. list_any test call.cases) calls

-- whether one of these calls is of this process
abbrev pub is_among : ℕ → List OpenCall → Bool
is_among q calls = list_any (λ call. call.pid.0 == q) calls

-- no process has two of these calls
abbrev pub Apart : List OpenCall → Type 0
Apart [] = Unit
Apart (call ∷ calls) = (is_among call.pid.0 calls ≡ false) × Apart calls

-- no two of these calls could meet each other on the port
abbrev pub Alone : Port → List OpenCall → Type 0
Alone p [] = Unit
Alone p (call ∷ calls) =
    (list_any (is_recv_on p) call.cases ≡ true → some_call (is_send_on p) calls ≡ false)
    × (list_any (is_send_on p) call.cases ≡ true → some_call (is_recv_on p) calls ≡ false)
    × Alone p calls

-- a call of no more cases than the edition admits, on ports that are made, where so many are, or on port 0
pub record CallFits (edition : Edition) (ports : ℕ) (call : OpenCall) : Type 0 where
  pub few : length call.cases ≤ most_cases edition
  pub made : list_any (λ c. nat_lt ports (port_of c).0) call.cases ≡ false

-- a channel against the calls that wait
pub record PortSound (p : Port) (c : Channel) (calls : List OpenCall) : Type 0 where
  pub received : c.received ≤ length c.sent
  pub fits : length c.sent ≤ c.received + c.cap
  -- a receiver waits only where the buffer is empty
  pub receivers : some_call (is_recv_on p) calls ≡ true → c.received ≡ length c.sent
  -- a sender waits only where the buffer is full
  pub senders : some_call (is_send_on p) calls ≡ true → length c.sent ≡ c.received + c.cap
  -- nobody waits on a closed port
  pub ended :
      c.closed ≡ true →
      (some_call (is_recv_on p) calls ≡ false) × (some_call (is_send_on p) calls ≡ false)
  pub alone : Alone p calls

pub record IsSound (s : State) : Type 0 where
  pub apart : Apart s.parked
  pub present : (q : ℕ) → is_waiting s q ≡ true → (q < s.head.procs) × (has_gone s q ≡ false)
  pub calls : AllByRecursion (CallFits s.head.edition (length s.channels)) s.parked
  pub ports : (p : Port) (c : Channel) → channel_at s p ≡ Some c → PortSound p c s.parked
