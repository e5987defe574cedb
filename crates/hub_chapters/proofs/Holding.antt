-- What holds of each channel and of each case of an open call, through a run: for any facts that a send, a receive
-- and a close keep.
use Rattle.hub_laws.proofs.Prelude.{◌≡◌, Bool, true, false, List, [], ◌∷◌, refl, sym, subst, Option, Some, None, ℕ, ◌≤◌, ◌%◌, ◌==◌, ◌-◌, cond}
use Rattle.hub_laws.proofs.Prelude.{zero, suc, length, arith, not}
use Rattle.hub_laws.proofs.Prelude.{filter, list_any, AllByRecursion, all_snoc, slice_get, slice_set}
use Rattle.hub_laws.proofs.Prelude.{Entry, Step, Make, Call, Close, Exit, Cancel, Start, Reopen, reopens, reopened, Case, Send, Recv, Closed, Sent}
use Rattle.hub_laws.proofs.Prelude.{Fault, Pid, Port, Value, Event}
use Rattle.hub_laws.proofs.Prelude.{Channel, State, OpenCall, Change, Firing, Ending, MOST_CAP}
use Rattle.hub_laws.proofs.Prelude.{channel_at, after_send, after_receive, shut, with_sent, next_value, without, is_on, is_recv_on, is_send_on}
use Rattle.hub_laws.proofs.Prelude.{first_with, port_of, ready, can_proceed, fired}
use Rattle.hub_laws.proofs.Prelude.{send_meets, recv_takes, recv_meets, fires, proceeds, chooses, calls, closes, effect, fault_of, answers, admits}
use Rattle.hub_laws.proofs.Prelude.{moves, state_after, all_wait}
use Rattle.hub_base.specs.State.{with_channel}
use Rattle.hub_base.specs.Steps.{waits}
use Rattle.hub_laws.proofs.Calls.{all_kept, first-found}
use Rattle.hub_laws.proofs.Deeds.{fresh}
use Rattle.hub_laws.proofs.Ports.{made}
use Rattle.hub_laws.proofs.Ready.{chosen, by-refusal}
use Rattle.hub_chapters.proofs.Stalling.{stalls_if}

-- the facts are kept
pub record Kept (P : Channel → Type 0) (Q : Case → Type 0) : Type 0 where
  pub made : (cap : ℕ) → cap ≤ MOST_CAP → P (fresh cap)
  pub sent : (p : Port) (v : Value) (c : Channel) → Q (Send p v) → P c → P (after_send v c)
  pub received : (c : Channel) → P c → P (after_receive c)
  pub shuts : (c : Channel) → P c → P (shut c)
  pub opens : (cap : ℕ) (c : Channel) → cap ≤ MOST_CAP → P c → P (reopened cap c)

pub record Holds (P : Channel → Type 0) (Q : Case → Type 0) (s : State) : Type 0 where
  pub channels : AllByRecursion P s.channels
  pub calls : AllByRecursion (λ call. AllByRecursion Q call.cases) s.parked

abbrev pub CasesHold : (Case → Type 0) → Step → Type 0
CasesHold Q (Call cases default word) = AllByRecursion Q cases.items
CasesHold Q (Make cap) = Unit
CasesHold Q (Close p) = Unit
CasesHold Q Exit = Unit
CasesHold Q (Cancel q) = Unit
CasesHold Q (Start q) = Unit
CasesHold Q (Reopen p cap) = Unit

-- in lists

all_set : (P : Channel → Type 0) (cs : List Channel) (i : ℕ) (d : Channel) → AllByRecursion P cs → P d → AllByRecursion P (slice_set cs i d)
all_set P [] i d all new = all
all_set P (c ∷ cs) zero d all new = (new, all.1)
all_set P (c ∷ cs) (suc i) d all new = (all.0, all_set P cs i d all.1 new)

all_get : {A : Type 0} (P : A → Type 0) (xs : List A) (i : ℕ) (x : A) → AllByRecursion P xs → slice_get xs i ≡ Some x → P x
all_get P [] i x all e = absurd (let g : ⊥ = cc in g)
all_get P (y ∷ ys) zero x all e = subst P (let same : y ≡ x = cc in same) all.0
all_get P (y ∷ ys) (suc i) x all e = all_get P ys i x all.1 e

all_at : (P : Channel → Type 0) (s : State) (p : Port) (c : Channel) → AllByRecursion P s.channels → channel_at s p ≡ Some c → P c
all_at P s p c all e = all_get P s.channels (p.0 - 1) c all (made s p c e).channel

-- a channel is written

writes : (P : Channel → Type 0) (Q : Case → Type 0) (s : State) (calls : List OpenCall) (p : Port) (d : Channel) → AllByRecursion P s.channels →
    AllByRecursion (λ call. AllByRecursion Q call.cases) calls → P d → Holds P Q (with_channel (record s { parked = calls }) p d)
writes P Q s calls p d channels all new = record { channels = all_set P s.channels (p.0 - 1) d channels new; calls = all }

less : (Q : Case → Type 0) (pid : Pid) (calls : List OpenCall) → AllByRecursion (λ call. AllByRecursion Q call.cases) calls →
    AllByRecursion (λ call. AllByRecursion Q call.cases) (without pid calls)
less Q pid calls all = all_kept (λ (call : OpenCall). AllByRecursion Q call.cases) (λ call. not (call.pid.0 == pid.0)) calls all

send_meets-holds : (P : Channel → Type 0) (Q : Case → Type 0) → Kept P Q → (s : State) (p : Port) (c : Channel) (o : Option Ending) → Holds P Q s → P c →
    Holds P Q (send_meets s p c o).state
send_meets-holds P Q k s p c None h new = writes P Q s s.parked p c h.channels h.calls new
send_meets-holds P Q k s p c (Some e) h new =
    writes P Q s (without e.pid s.parked) p (after_receive c) h.channels (less Q e.pid s.parked h.calls) (k.received c new)

send_by : (P : Channel → Type 0) (Q : Case → Type 0) → Kept P Q → (s : State) (p : Port) (c : Channel) (b : Bool) (o : Option Ending) → Holds P Q s → P c →
    Holds P Q (cond b (record { outcome = Closed; state = s; ended = [] }) (send_meets s p c o)).state
send_by P Q k s p c true o h new = h
send_by P Q k s p c false o h new = send_meets-holds P Q k s p c o h new

recv_takes-holds : (P : Channel → Type 0) (Q : Case → Type 0) → Kept P Q →
    (s : State) (calls : List OpenCall) (p : Port) (c : Channel) (ended : List Event) (o : Option Value) →
    AllByRecursion P s.channels → AllByRecursion (λ call. AllByRecursion Q call.cases) calls → P c →
    Holds P Q (recv_takes (record s { parked = calls }) p c ended o).state
recv_takes-holds P Q k s calls p c ended None channels all new = writes P Q s calls p c channels all new
recv_takes-holds P Q k s calls p c ended (Some v) channels all new = writes P Q s calls p (after_receive c) channels all (k.received c new)

with_sent-holds : (P : Channel → Type 0) (Q : Case → Type 0) → Kept P Q → (x : Case) (c : Channel) → Q x → P c → P (with_sent x c)
with_sent-holds P Q k (Send p v) c q h = k.sent p v c q h
with_sent-holds P Q k (Recv p) c q h = h

recv_meets-holds : (P : Channel → Type 0) (Q : Case → Type 0) → Kept P Q → (s : State) (p : Port) (c : Channel) (o : Option Ending) →
    o ≡ first_with (is_send_on p) s.parked →
    Holds P Q s → P c → Holds P Q (recv_meets s p c o).state
recv_meets-holds P Q k s p c None is h new = recv_takes-holds P Q k s s.parked p c [] (next_value c) h.channels h.calls new
recv_meets-holds P Q k s p c (Some e) is h new =
    let found = first-found (λ call. AllByRecursion Q call.cases) (is_send_on p) s.parked e h.calls (sym is) in
    let q : Q e.at.case = all_get Q found.call.cases e.at.index e.at.case found.known found.stands in
    recv_takes-holds P Q k s (without e.pid s.parked) p (with_sent e.at.case c) (fired e.pid e.at.index Sent ∷ []) (next_value (with_sent e.at.case c))
    h.channels (less Q e.pid s.parked h.calls) (with_sent-holds P Q k e.at.case c q new)

abbrev HoldsThen : (Channel → Type 0) → (Case → Type 0) → Option Firing → Type 0
HoldsThen P Q None = Unit
HoldsThen P Q (Some f) = Holds P Q f.state

fires-holds : (P : Channel → Type 0) (Q : Case → Type 0) → Kept P Q → (s : State) (x : Case) (o : Option Channel) → o ≡ channel_at s (port_of x) →
    Holds P Q s → Q x →
    HoldsThen P Q (fires s x o)
fires-holds P Q k s x None is h q = tt
fires-holds P Q k s (Send p v) (Some c) is h q =
    send_by P Q k s p (after_send v c) c.closed (first_with (is_recv_on p) s.parked) h (k.sent p v c q (all_at P s p c h.channels (sym is)))
fires-holds P Q k s (Recv p) (Some c) is h q = recv_meets-holds P Q k s p c (first_with (is_send_on p) s.parked) refl h (all_at P s p c h.channels (sym is))

proceeds-holds : (P : Channel → Type 0) (Q : Case → Type 0) → (s : State) (pid : Pid) (i : ℕ) (f : Option Firing) → Holds P Q s → HoldsThen P Q f →
    Holds P Q (proceeds s pid i f).state
proceeds-holds P Q s pid i None h then = h
proceeds-holds P Q s pid i (Some f) h then = then

waits-holds : (P : Channel → Type 0) (Q : Case → Type 0) → (s : State) (pid : Pid) (cases : List Case) (default : Bool) → Holds P Q s →
    AllByRecursion Q cases →
    Holds P Q (waits s pid cases default).state
waits-holds P Q s pid cases true h q = h
waits-holds P Q s pid cases false h q =
    let fit : OpenCall → Type 0 = λ (call : OpenCall). AllByRecursion Q call.cases in
    record { channels = h.channels; calls = all_snoc fit s.parked (record { pid = pid; cases = cases }) h.calls q }

chooses-holds : (P : Channel → Type 0) (Q : Case → Type 0) → Kept P Q →
    (s : State) (pid : Pid) (cases : List Case) (default : Bool) (i : ℕ) (o : Option (ℕ × Case)) →
    o ≡ slice_get (ready s cases) i → Holds P Q s → AllByRecursion Q cases → Holds P Q (chooses s pid cases default o).state
chooses-holds P Q k s pid cases default i None is h q = waits-holds P Q s pid cases default h q
chooses-holds P Q k s pid cases default i (Some x) is h q =
    let stands = (chosen (can_proceed s) 0 i cases x (sym is)).stands in
    let mine : Q x.1 = all_get Q cases stands.0 x.1 q stands.2 in
    proceeds-holds P Q s pid x.0 (fires s x.1 (channel_at s (port_of x.1))) h (fires-holds P Q k s x.1 (channel_at s (port_of x.1)) refl h mine)

closes-holds : (P : Channel → Type 0) (Q : Case → Type 0) → Kept P Q → (s : State) (pid : Pid) (p : Port) (o : Option Channel) → o ≡ channel_at s p →
    Holds P Q s →
    Holds P Q (closes s pid p o).state
closes-holds P Q k s pid p None is h = h
closes-holds P Q k s pid p (Some c) is h =
    let off : OpenCall → Bool = λ call. not (list_any (is_on p) call.cases) in
    writes P Q s (filter off s.parked) p (shut c) h.channels (all_kept (λ (call : OpenCall). AllByRecursion Q call.cases) off s.parked h.calls)
    (k.shuts c (all_at P s p c h.channels (sym is)))

reopens-holds : (P : Channel → Type 0) (Q : Case → Type 0) → Kept P Q → (s : State) (pid : Pid) (p : Port) (cap : ℕ) (o : Option Channel) →
    o ≡ channel_at s p → cap ≤ MOST_CAP → Holds P Q s → Holds P Q (reopens s pid p cap o).state
reopens-holds P Q k s pid p cap None is few h = h
reopens-holds P Q k s pid p cap (Some c) is few h =
    writes P Q s s.parked p (reopened cap c) h.channels h.calls (k.opens cap c few (all_at P s p c h.channels (sym is)))

room_to_open : (s : State) (p : Port) (cap : ℕ) → fault_of s (Reopen p cap) ≡ None → cap ≤ MOST_CAP
room_to_open s p cap h = grind arith

room_for_cap : (s : State) (cap : ℕ) → fault_of s (Make cap) ≡ None → cap ≤ MOST_CAP
room_for_cap s cap h = grind arith

effect-holds : (P : Channel → Type 0) (Q : Case → Type 0) → Kept P Q → (s : State) (pid : Pid) (step : Step) → fault_of s step ≡ None → Holds P Q s →
    CasesHold Q step →
    Holds P Q (effect s pid step).state
effect-holds P Q k s pid (Make cap) fine h q =
    record { channels = all_snoc P s.channels (fresh cap) h.channels (k.made cap (room_for_cap s cap fine)); calls = h.calls }
effect-holds P Q k s pid (Call cases default word) fine h q =
    let i : ℕ = word % length (ready s cases.items) in
    chooses-holds P Q k s pid cases.items default i (slice_get (ready s cases.items) i) refl h q
effect-holds P Q k s pid (Close p) fine h q = closes-holds P Q k s pid p (channel_at s p) refl h
effect-holds P Q k s pid Exit fine h q = record { channels = h.channels; calls = h.calls }
effect-holds P Q k s pid (Cancel o) fine h q = record { channels = h.channels; calls = less Q o s.parked h.calls }
effect-holds P Q k s pid (Start o) fine h q = record { channels = h.channels; calls = h.calls }
effect-holds P Q k s pid (Reopen p cap) fine h q = reopens-holds P Q k s pid p cap (channel_at s p) refl (room_to_open s p cap fine) h

stalls-holds : (P : Channel → Type 0) (Q : Case → Type 0) (c : Change) (b : Bool) → Holds P Q c.state →
    Holds P Q (stalls_if b c).state
stalls-holds P Q c true h = record { channels = h.channels; calls = tt }
stalls-holds P Q c false h = h

answers-holds : (P : Channel → Type 0) (Q : Case → Type 0) → Kept P Q → (s : State) (e : Entry) (o : Option Fault) → o ≡ fault_of s e.step →
    Holds P Q s → CasesHold Q e.step →
    Holds P Q (answers s e o).state
answers-holds P Q k s e None is h q =
    let c : Change = effect s e.pid e.step in stalls-holds P Q c (all_wait c.state) (effect-holds P Q k s e.pid e.step (sym is) h q)
answers-holds P Q k s e (Some f) is h q = h

pub moves-holds : (P : Channel → Type 0) (Q : Case → Type 0) → Kept P Q → (s : State) (e : Entry) → Holds P Q s → CasesHold Q e.step →
    Holds P Q (moves s e).state
moves-holds P Q k s e h q =
    by-refusal (λ o. Holds P Q (admits s e o).state) s e.pid (λ is. answers-holds P Q k s e (fault_of s e.step) refl h q) (λ f is. h)

pub holds-after : (P : Channel → Type 0) (Q : Case → Type 0) → Kept P Q → (s : State) (es : List Entry) → Holds P Q s →
    AllByRecursion (λ e. CasesHold Q e.step) es →
    Holds P Q (state_after s es)
holds-after P Q k s [] h q = h
holds-after P Q k s (e ∷ es) h q = holds-after P Q k (moves s e).state es (moves-holds P Q k s e h q.0) q.1
