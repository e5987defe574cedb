-- How many entries that are no exits a checkpoint has: no more than were admitted.
use Rattle.hub_laws.proofs.Prelude.{◌≡◌, Bool, true, false, List, [], ◌∷◌, ◌++◌, refl, ap, sym, Option, Some, None, ℕ, ◌+◌, ◌-◌, ◌≤◌, ◌%◌, ◌==◌, cond}
use Rattle.hub_laws.proofs.Prelude.{zero, suc, length, arith, not}
use Rattle.hub_laws.proofs.Prelude.{filter, list_any, slice_get, slice_set, length-append, length-drop}
use Rattle.hub_laws.proofs.Prelude.{Entry, Step, Make, Call, Close, Exit, Cancel, Start, Reopen, reopens, reopened, Case, Send, Recv, Closed, Sent}
use Rattle.hub_laws.proofs.Prelude.{Fault, Pid, Port, Value, Event}
use Rattle.hub_laws.proofs.Prelude.{Channel, State, OpenCall, Change, Firing, Ending, Head}
use Rattle.hub_laws.proofs.Prelude.{channel_at, buffer_of, after_send, after_receive, shut, with_sent, next_value, without, is_on, is_recv_on}
use Rattle.hub_laws.proofs.Prelude.{is_send_on, first_with, port_of, ready, fired, opening, state, kept}
use Rattle.hub_laws.proofs.Prelude.{send_meets, recv_takes, recv_meets, fires, proceeds, chooses, calls, closes, effect, fault_of, answers, turn}
use Rattle.hub_laws.proofs.Prelude.{admits, state_after, kept_after, keeps, all_wait}
use Rattle.hub_laws.proofs.Prelude.{one_step, steps_of}
use Rattle.hub_base.specs.State.{with_channel}
use Rattle.hub_base.specs.Steps.{waits}
use Rattle.hub_laws.proofs.Ports.{made}
use Rattle.hub_laws.proofs.Ready.{by-refusal}
use Rattle.hub_chapters.proofs.Stalling.{stalls_if}

abbrev pub one : Bool → ℕ
one true = 1
one false = 0

-- the make of a port, the send_again that send_again it, and its close
abbrev pub weight : Channel → ℕ
weight c = 1 + length (buffer_of c) + one c.closed

abbrev pub weights : List Channel → ℕ
weights [] = 0
weights (c ∷ cs) = weight c + weights cs

-- and the open calls
abbrev pub weight_of : State → ℕ
weight_of s = weights s.channels + length s.parked

-- in lists

more_weight : (cs : List Channel) (d : Channel) → weights (cs ++ d ∷ []) ≡ weights cs + weight d
more_weight [] d = omega arith
more_weight (c ∷ cs) d = omega (arith, more_weight cs d)

set_weight : (cs : List Channel) (i : ℕ) (c d : Channel) → slice_get cs i ≡ Some c → weights (slice_set cs i d) + weight c ≡ weights cs + weight d
set_weight [] i c d e = absurd (let g : ⊥ = cc in g)
set_weight (x ∷ cs) zero c d e = let same : weight x ≡ weight c = ap weight (let s : x ≡ c = cc in s) in omega arith
set_weight (x ∷ cs) (suc i) c d e = omega (arith, set_weight cs i c d e)

less_calls : (keep : OpenCall → Bool) (calls : List OpenCall) → length (filter keep calls) ≤ length calls
less_calls keep [] = omega arith
less_calls keep (call ∷ calls) = by (keep call) (less_calls keep calls)
  where
    by : (b : Bool) → length (filter keep calls) ≤ length calls → length (cond b (call ∷ filter keep calls) (filter keep calls)) ≤ length (call ∷ calls)
    by true h = omega arith
    by false h = omega arith

-- a channel is written by one that weighs at most so much more
writes : (n : ℕ) (s : State) (calls : List OpenCall) (p : Port) (c d : Channel) → channel_at s p ≡ Some c → length calls ≤ length s.parked →
    weight d ≤ weight c + n →
    weight_of (with_channel (record s { parked = calls }) p d) ≤ weight_of s + n
writes n s calls p c d e few more = omega (arith, set_weight s.channels (p.0 - 1) c d (made s p c e).channel)

-- a channel
sent_weight : (v : Value) (c : Channel) → weight (after_send v c) ≤ weight c + 1
sent_weight v c =
    let a = length-append c.sent (v ∷ []) in
    let l = length-drop c.received (c.sent ++ v ∷ []) in
    let m = length-drop c.received c.sent in
    omega arith

received_weight : (c : Channel) → weight (after_receive c) ≤ weight c
received_weight c =
    let l = length-drop (c.received + 1) c.sent in
    let m = length-drop c.received c.sent in
    omega arith

handed_weight : (v : Value) (c : Channel) → weight (after_receive (after_send v c)) ≤ weight c + 1
handed_weight v c = let a = received_weight (after_send v c) in let b = sent_weight v c in omega arith

-- a case that fires

send_meets-weighs : (s : State) (p : Port) (v : Value) (c : Channel) (o : Option Ending) → channel_at s p ≡ Some c →
    weight_of (send_meets s p (after_send v c) o).state ≤ weight_of s + 1
send_meets-weighs s p v c None e = writes 1 s s.parked p c (after_send v c) e (omega arith) (sent_weight v c)
send_meets-weighs s p v c (Some x) e =
    writes 1 s (without x.pid s.parked) p c (after_receive (after_send v c)) e (less_calls (λ call. not (call.pid.0 == x.pid.0)) s.parked) (handed_weight v c)

send_by : (s : State) (p : Port) (v : Value) (c : Channel) (b : Bool) (o : Option Ending) → channel_at s p ≡ Some c →
    weight_of (cond b (record { outcome = Closed; state = s; ended = [] }) (send_meets s p (after_send v c) o)).state ≤ weight_of s + 1
send_by s p v c true o e = omega arith
send_by s p v c false o e = send_meets-weighs s p v c o e

recv_takes-weighs : (s : State) (calls : List OpenCall) (p : Port) (c d : Channel) (ended : List Event) (o : Option Value) → channel_at s p ≡ Some c →
    length calls ≤ length s.parked →
    weight d ≤ weight c + 1 → weight_of (recv_takes (record s { parked = calls }) p d ended o).state ≤ weight_of s + 1
recv_takes-weighs s calls p c d ended None e few more = writes 1 s calls p c d e few more
recv_takes-weighs s calls p c d ended (Some v) e few more = writes 1 s calls p c (after_receive d) e few (let r = received_weight d in omega arith)

with_sent-weighs : (k : Case) (c : Channel) → weight (with_sent k c) ≤ weight c + 1
with_sent-weighs (Send p v) c = sent_weight v c
with_sent-weighs (Recv p) c = omega arith

recv_meets-weighs : (s : State) (p : Port) (c : Channel) (o : Option Ending) → channel_at s p ≡ Some c → weight_of (recv_meets s p c o).state ≤ weight_of s + 1
recv_meets-weighs s p c None e = recv_takes-weighs s s.parked p c c [] (next_value c) e (omega arith) (omega arith)
recv_meets-weighs s p c (Some x) e =
    recv_takes-weighs s (without x.pid s.parked) p c (with_sent x.at.case c) (fired x.pid x.at.index Sent ∷ []) (next_value (with_sent x.at.case c)) e
    (less_calls (λ call. not (call.pid.0 == x.pid.0)) s.parked) (with_sent-weighs x.at.case c)

abbrev WeighsThen : State → Option Firing → Type 0
WeighsThen s None = Unit
WeighsThen s (Some f) = weight_of f.state ≤ weight_of s + 1

fires-weighs : (s : State) (x : Case) (o : Option Channel) → o ≡ channel_at s (port_of x) → WeighsThen s (fires s x o)
fires-weighs s x None is = tt
fires-weighs s (Send p v) (Some c) is = send_by s p v c c.closed (first_with (is_recv_on p) s.parked) (sym is)
fires-weighs s (Recv p) (Some c) is = recv_meets-weighs s p c (first_with (is_send_on p) s.parked) (sym is)

proceeds-weighs : (s : State) (pid : Pid) (i : ℕ) (f : Option Firing) → WeighsThen s f → weight_of (proceeds s pid i f).state ≤ weight_of s + 1
proceeds-weighs s pid i None h = omega arith
proceeds-weighs s pid i (Some f) h = h

waits-weighs : (s : State) (pid : Pid) (cases : List Case) (default : Bool) → weight_of (waits s pid cases default).state ≤ weight_of s + 1
waits-weighs s pid cases true = omega arith
waits-weighs s pid cases false = let a = length-append s.parked (record { pid = pid; cases = cases } ∷ []) in omega arith

chooses-weighs : (s : State) (pid : Pid) (cases : List Case) (default : Bool) (o : Option (ℕ × Case)) →
    weight_of (chooses s pid cases default o).state ≤ weight_of s + 1
chooses-weighs s pid cases default None = waits-weighs s pid cases default
chooses-weighs s pid cases default (Some x) =
    proceeds-weighs s pid x.0 (fires s x.1 (channel_at s (port_of x.1))) (fires-weighs s x.1 (channel_at s (port_of x.1)) refl)

closes-weighs : (s : State) (pid : Pid) (p : Port) (o : Option Channel) → o ≡ channel_at s p → weight_of (closes s pid p o).state ≤ weight_of s + 1
closes-weighs s pid p None is = omega arith
closes-weighs s pid p (Some c) is =
    writes 1 s (filter (λ call. not (list_any (is_on p) call.cases)) s.parked) p c (shut c) (sym is)
    (less_calls (λ call. not (list_any (is_on p) call.cases)) s.parked) (omega arith)

reopens-weighs : (s : State) (pid : Pid) (p : Port) (cap : ℕ) (o : Option Channel) → o ≡ channel_at s p →
    weight_of (reopens s pid p cap o).state ≤ weight_of s + 1
reopens-weighs s pid p cap None is = omega arith
reopens-weighs s pid p cap (Some c) is = writes 1 s s.parked p c (reopened cap c) (sym is) (omega arith) (omega arith)

-- a step, an exit by none
effect-weighs : (s : State) (e : Entry) → weight_of (effect s e.pid e.step).state ≤ weight_of s + one_step e
effect-weighs s e = by e.step refl
  where
    by : (step : Step) → step ≡ e.step → weight_of (effect s e.pid step).state ≤ weight_of s + one_step (record { pid = e.pid; step = step })
    by (Make cap) is = let m = more_weight s.channels (record { cap = cap; closed = false; sent = []; received = 0 }) in omega arith
    by (Call cases default word) is = chooses-weighs s e.pid cases.items default (slice_get (ready s cases.items) (word % length (ready s cases.items)))
    by (Close p) is = closes-weighs s e.pid p (channel_at s p) refl
    by Exit is = omega arith
    by (Start q) is = omega arith
    by (Reopen p cap) is = reopens-weighs s e.pid p cap (channel_at s p) refl
    by (Cancel q) is = let l = less_calls (λ call. not (call.pid.0 == q.0)) s.parked in omega arith

stalls-weighs : (c : Change) (b : Bool) →
    weight_of (stalls_if b c).state ≤ weight_of c.state
stalls-weighs c true = omega arith
stalls-weighs c false = omega arith

answers-weighs : (s : State) (e : Entry) (o : Option Fault) → weight_of (answers s e o).state ≤ weight_of s + one_step e
answers-weighs s e None =
    let c : Change = effect s e.pid e.step in
    let a = stalls-weighs c (all_wait c.state) in
    let b = effect-weighs s e in
    omega arith
answers-weighs s e (Some f) = omega arith

weighs-after : (s : State) (es : List Entry) → weight_of (state_after s es) ≤ weight_of s + steps_of (kept_after s es)
weighs-after s [] = omega arith
weighs-after s (e ∷ es) =
    by-refusal (λ o. weight_of (state_after (admits s e o).state es) ≤ weight_of s + steps_of (keeps o e (kept_after (admits s e o).state es))) s e.pid
    (λ is. let a = answers-weighs s e (fault_of s e.step) in omega (arith, weighs-after (turn s e).state es)) (λ f is. weighs-after s es)

pub weight-law : (h : Head) (es : List Entry) → weight_of (state h es) ≤ steps_of (kept h es)
weight-law h es = omega (arith, weighs-after (opening h) es)
