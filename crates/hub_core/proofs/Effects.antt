-- A make, a close, an exit, a cancel, a start, a reopen, and so each step, is on the lists what it is in the meaning.
use Rattle.std.proofs.Common.{zero, suc, ◌-◌, ◌≤◌, ◌&&◌, nat_le, ◌≡◌, ℕ, ◌+◌, ◌==◌, ◌<◌, ◌||◌, ◌≢◌, not, nat_lt, Bool, true, false, cond, List, []}
use Rattle.std.proofs.Common.{◌∷◌, ◌++◌, length, filter, refl, ap, ◌∙◌, sym, subst, Option, Some, None, arith}
use Rattle.std.specs.Prelude.{slice_set}
use Rattle.std.specs.List.{list_any, filter_map}
use Rattle.std.proofs.Math.Bool.{or-true, or-false, and-true, and-false}
use Rattle.std.proofs.lemmas.Grind.{common_steps}
use Rattle.std.proofs.lemmas.List.{map-append, get_or-set_same, get_or-set_other, drop_all, length-drop}
use Rattle.hub_base.specs.declared.value.Pid.{Pid}
use Rattle.hub_base.specs.declared.value.Port.{Port}
use Rattle.hub_base.specs.declared.case.Case.{Case}
use Rattle.hub_base.specs.Entry.{Step}
use Rattle.hub_base.specs.declared.entry.Step.TheVariants.{Make, Call, Close, Exit, Cancel, Start, Reopen}
use Rattle.hub_base.specs.declared.fault.Fault.TheVariants as fault
use Rattle.hub_base.specs.declared.event.What.TheVariants as what
use Rattle.hub_base.specs.Head.{most_cases}
use Rattle.hub_base.specs.State.{State, Channel, channel_at, buffer_of}
use Rattle.hub_base.specs.declared.limits.TheConstants.{MOST_CAP}
use Rattle.hub_laws.proofs.Gone.{any-but}
use Rattle.hub_laws.proofs.Entries.{reopen_parts}
use Rattle.hub_base.specs.Ready.{is_on, port_of, without}
use Rattle.hub_base.specs.Steps.{shut, closes, makes, exits, cancels, is_waiting, effect, tells, closing_event, is_unmade, fault_of, close_fault}
use Rattle.hub_base.specs.Steps.{starts, reopens, reopened, reopen_fault, has_gone}
use Rattle.hub_laws.specs.Sound.{IsSound}
use Rattle.hub_laws.proofs.Calls.{any_snoc}
use Rattle.hub_laws.proofs.Ready.{none_false}
use Rattle.std.proofs.lemmas.Bool.{eqb-true}
use Rattle.hub_parts.specs.Records.{Ticketed}
use Rattle.hub_parts.specs.Lists.{open_calls, still_open, port_at, closed_now, new_port}
use Rattle.hub_core.specs.Records.{MachineLists, no_tally}
use Rattle.hub_core.specs.ListSteps.{off_port, closes_on, makes_on, exits_on, cancels_on, starts_on, reopens_on, effect_on, gone_on, open_on}
use Rattle.hub_core.specs.ListSteps.{is_unmade_on, call_fault_on, fault_on}
use Rattle.hub_core.specs.Follows.{lists_of, tally_of, Matches}
use Rattle.hub_core.specs.Agrees.{StepsAs}
use Rattle.hub_core.proofs.Ports.{port-lists_of, ports-set, counts-same}
use Rattle.hub_core.proofs.Readiness.{count-ports, made_channel}
use Rattle.hub_core.proofs.Answering.{calls_on-as}

-- ---- a close
open_calls-off_port : (p : Port) (ws : List Ticketed) → open_calls (off_port p ws) ≡ filter (λ call. not (list_any (is_on p) call.cases)) (open_calls ws)
open_calls-off_port p [] = refl
open_calls-off_port p (w ∷ ws) = grind (arith, common_steps, open_calls-off_port p ws)

closes_on-as : (s : State) (m : MachineLists) (pid : Pid) (p : Port) (o : Option Channel) → Matches s m → o ≡ channel_at s p
    → close_fault o ≡ None → StepsAs (closes s pid p o) (closes_on m pid p)
closes_on-as s m pid p None h is fine = cc
closes_on-as s m pid p (Some c) h is fine = record {
  events = ap (λ calls. tells pid what.Done ∷ filter_map (closing_event p) calls) h.calls;
  state = record {
    edition = h.edition;
    procs = h.procs;
    calls = open_calls-off_port p m.board.waiting ∙ ap (filter (λ call. not (list_any (is_on p) call.cases))) h.calls;
    ports = ports-set s m p (shut c) _ h (ap closed_now (port-lists_of s m p c h (sym is)));
    counts = counts-same s m p c (shut c) h (sym is) refl;
    gone = h.gone;
  };
}

-- ---- a make
makes_on-as : (s : State) (m : MachineLists) (pid : Pid) (cap : ℕ) → Matches s m → StepsAs (makes s pid cap) (makes_on m pid cap)
makes_on-as s m pid cap h = record {
  events = ap (λ n. tells pid (what.Made (record { 0 = n + 1 })) ∷ []) (count-ports s m h);
  state = record {
    edition = h.edition;
    procs = h.procs;
    calls = h.calls;
    ports = ap (λ ps. ps ++ new_port cap ∷ []) h.ports
        ∙ sym (map-append lists_of s.channels (record { cap = cap; closed = false; sent = []; received = 0 } ∷ []));
    counts = ap (λ ts. ts ++ no_tally ∷ []) h.counts
        ∙ sym (map-append tally_of s.channels (record { cap = cap; closed = false; sent = []; received = 0 } ∷ []));
    gone = h.gone;
  };
}

-- ---- an exit
-- who has exited where this is set of one
gone-set : (gone : List Bool) (p q : ℕ) (now same : Bool) → p < length gone → (p == q) ≡ same
    → gone_on (slice_set gone p now) q ≡ cond same now (gone_on gone q)
gone-set gone p q now true room is =
    subst (λ (n : ℕ). gone_on (slice_set gone p now) n ≡ now) (eqb-true p q is) (get_or-set_same gone p now false room)
gone-set gone p q now false room is = get_or-set_other gone p q now false (differs p q is)
  where
    differs : (a b : ℕ) → (a == b) ≡ false → b ≢ a
    differs a b is = λ e. grind (arith, common_steps)

-- a process has exited then if it had, or is the one that exits
pub gone-more : (gone : List Bool) (pid q : ℕ) (same : Bool) → pid < length gone → (pid == q) ≡ same
    → gone_on (slice_set gone pid true) q ≡ (gone_on gone q || same)
gone-more gone pid q same room is = gone-set gone pid q true same room is ∙ either (gone_on gone q) same
  where
    either : (b same : Bool) → cond same true b ≡ (b || same)
    either b true = sym (or-true b)
    either b false = sym (or-false b)

-- where others have exited
goes : (s : State) (m : MachineLists) (pids : List Pid) (gone : List Bool) → Matches s m → ((q : ℕ) → gone_on gone q ≡ list_any (λ g. g.0 == q) pids)
    → Matches (record s { gone = pids }) (record m { gone = gone })
goes s m pids gone h each = record { edition = h.edition; procs = h.procs; calls = h.calls; ports = h.ports; counts = h.counts; gone = each }

exits_on-as : (s : State) (m : MachineLists) (pid : Pid) → Matches s m → pid.0 < length m.gone → StepsAs (exits s pid) (exits_on m pid)
exits_on-as s m pid h room = record {
  events = refl;
  state = goes s m (s.gone ++ pid ∷ []) (slice_set m.gone pid.0 true) h (λ q.
      gone-more m.gone pid.0 q (pid.0 == q) room refl ∙ ap (λ b. b || (pid.0 == q)) (h.gone q) ∙ sym (any_snoc (λ g. g.0 == q) s.gone pid));
}

-- ---- a cancel
open_calls-still_open : (q : Pid) (ws : List Ticketed) → open_calls (still_open q ws) ≡ without q (open_calls ws)
open_calls-still_open q [] = refl
open_calls-still_open q (w ∷ ws) = grind (arith, common_steps, open_calls-still_open q ws)

cancels_on-as : (s : State) (m : MachineLists) (pid q : Pid) → Matches s m → StepsAs (cancels s pid q) (cancels_on m pid q)
cancels_on-as s m pid q h = record {
  events = refl;
  state = record {
    edition = h.edition;
    procs = h.procs;
    calls = open_calls-still_open q m.board.waiting ∙ ap (without q) h.calls;
    ports = h.ports;
    counts = h.counts;
    gone = h.gone;
  };
}

-- ---- a start
-- a process that has exited has a place in the list
pub gone-within : (gone : List Bool) (q : ℕ) → gone_on gone q ≡ true → q < length gone
gone-within [] q h = cc
gone-within (g ∷ gs) zero h = omega arith
gone-within (g ∷ gs) (suc q) h = omega (arith, gone-within gs q h)

-- a process has exited then if it had, and is not the one that is started
pub gone-fewer : (gone : List Bool) (p q : ℕ) (same : Bool) → p < length gone → (p == q) ≡ same
    → gone_on (slice_set gone p false) q ≡ (gone_on gone q && not same)
gone-fewer gone p q same room is = gone-set gone p q false same room is ∙ both (gone_on gone q) same
  where
    both : (b same : Bool) → cond same false b ≡ (b && not same)
    both b true = sym (and-false b)
    both b false = sym (and-true b)

starts_on-as : (s : State) (m : MachineLists) (pid q : Pid) → Matches s m → gone_on m.gone q.0 ≡ true → StepsAs (starts s pid q) (starts_on m pid q)
starts_on-as s m pid q h some = record {
  events = refl;
  state = goes s m (filter (λ g. not (g.0 == q.0)) s.gone) (slice_set m.gone q.0 false) h (λ r.
      gone-fewer m.gone q.0 r (q.0 == r) (gone-within m.gone q.0 some) refl ∙ ap (λ b. b && not (q.0 == r)) (h.gone r)
      ∙ sym (any-but r q.0 s.gone));
}

-- ---- a reopen
reopens_on-as : (s : State) (m : MachineLists) (pid : Pid) (p : Port) (cap : ℕ) (o : Option Channel) → Matches s m → o ≡ channel_at s p
    → reopen_fault o ≡ None → StepsAs (reopens s pid p cap o) (reopens_on m pid p cap)
reopens_on-as s m pid p cap None h is fine = cc
reopens_on-as s m pid p cap (Some c) h is fine =
    let drained : length c.sent ≤ c.received = (reopen_parts c fine).1 in
    let empty : new_port cap ≡ lists_of (reopened cap c) =
    ap (λ xs. record { cap = cap; closed = false; buffer = xs }) (sym (drop_all c.received c.sent drained)) in
    record {
      events = refl;
      state = record {
        edition = h.edition;
        procs = h.procs;
        calls = h.calls;
        ports = ports-set s m p (reopened cap c) (new_port cap) h empty;
        counts = counts-same s m p c (reopened cap c) h (sym is) refl;
        gone = h.gone;
      };
    }

-- ---- the faults that are journaled
unmade-as : (s : State) (m : MachineLists) (p : Port) → Matches s m → is_unmade_on m.board p ≡ is_unmade s p
unmade-as s m p h = ap (λ n. nat_lt n p.0) (count-ports s m h)

call_fault-as : (s : State) (m : MachineLists) (cases : List Case) → Matches s m → call_fault_on m.edition m.board cases
    ≡ cond (nat_lt (most_cases s.head.edition) (length cases)) (Some fault.TooManyCases)
    (cond (list_any (λ c. is_unmade s (port_of c)) cases) (Some fault.NoPort) None)
call_fault-as s m cases h = rw (count-ports s m h, h.edition) refl

close_fault_by : (s : State) (m : MachineLists) (p : Port) (unmade nil : Bool) → Matches s m → is_unmade s p ≡ unmade → (p.0 == 0) ≡ nil
    → cond unmade (Some fault.NoPort) (cond nil (Some fault.NilClose) (cond (port_at m.board p).closed (Some fault.AlreadyClosed) None))
    ≡ cond unmade (Some fault.NoPort) (close_fault (channel_at s p))
close_fault_by s m p true nil h named is = refl
close_fault_by s m p false true h named is = rw is refl
close_fault_by s m p false false h named is =
    let found = made_channel s p named is in
    rw (port-lists_of s m p found.0 h found.1, found.1) refl

none-left : (m n : ℕ) → (m - n == 0) ≡ nat_le m n
none-left m n = grind arith

reopen_fault_by : (s : State) (m : MachineLists) (p : Port) (cap : ℕ) (unmade nil : Bool) → Matches s m → is_unmade s p ≡ unmade → (p.0 == 0) ≡ nil
    → cond unmade (Some fault.NoPort) (cond (nat_lt MOST_CAP cap) (Some fault.BadCap) (cond nil (Some fault.NilClose)
    (cond ((port_at m.board p).closed && (length (port_at m.board p).buffer == 0)) None (Some fault.InUse))))
    ≡ cond unmade (Some fault.NoPort) (cond (nat_lt MOST_CAP cap) (Some fault.BadCap) (reopen_fault (channel_at s p)))
reopen_fault_by s m p cap true nil h named is = refl
reopen_fault_by s m p cap false true h named is = rw is refl
reopen_fault_by s m p cap false false h named is =
    let found = made_channel s p named is in
    let c : Channel = found.0 in
    let empty : (length (buffer_of c) == 0) ≡ nat_le (length c.sent) c.received =
    ap (λ n. n == 0) (length-drop c.received c.sent) ∙ none-left (length c.sent) c.received in
    rw (port-lists_of s m p found.0 h found.1, found.1)
    (ap (λ b. cond (nat_lt MOST_CAP cap) (Some fault.BadCap) (cond (c.closed && b) None (Some fault.InUse))) empty)

open_calls-any : (q : ℕ) (ws : List Ticketed) → open_on ws q ≡ list_any (λ call. call.pid.0 == q) (open_calls ws)
open_calls-any q [] = refl
open_calls-any q (w ∷ ws) = ap (λ b. (w.call.pid.0 == q) || b) (open_calls-any q ws)

open_on-as : (s : State) (m : MachineLists) (q : Pid) → Matches s m → open_on m.board.waiting q.0 ≡ is_waiting s q.0
open_on-as s m q h = open_calls-any q.0 m.board.waiting ∙ ap (list_any (λ call. call.pid.0 == q.0)) h.calls

pub fault_on-as : (s : State) (m : MachineLists) (step : Step) → Matches s m → fault_on m.edition m.board m.gone step ≡ fault_of s step
fault_on-as s m (Make cap) h = rw (count-ports s m h) refl
fault_on-as s m (Call cases default word) h = call_fault-as s m cases.items h
fault_on-as s m (Close p) h = rw (unmade-as s m p h) (close_fault_by s m p (is_unmade s p) (p.0 == 0) h refl refl)
fault_on-as s m Exit h = refl
fault_on-as s m (Cancel q) h = ap (λ b. cond b None (Some fault.NotParked)) (open_on-as s m q h)
fault_on-as s m (Start q) h = ap (λ b. cond b None (Some fault.NotGone)) (h.gone q.0)
fault_on-as s m (Reopen p cap) h = rw (unmade-as s m p h) (reopen_fault_by s m p cap (is_unmade s p) (p.0 == 0) h refl refl)

-- ---- a step that has no fault
named_cases : (s : State) (cases : List Case) (many : Bool)
    → cond many (Some fault.TooManyCases) (cond (list_any (λ c. is_unmade s (port_of c)) cases) (Some fault.NoPort) None) ≡ None
    → list_any (λ c. is_unmade s (port_of c)) cases ≡ false
named_cases s cases many e = (none_false (list_any (λ c. is_unmade s (port_of c)) cases) fault.NoPort None (none_false many fault.TooManyCases _ e).1).0

pub effect_on-as : (s : State) (m : MachineLists) (pid : Pid) (step : Step) → IsSound s → Matches s m → pid.0 < length m.gone
    → fault_of s step ≡ None → StepsAs (effect s pid step) (effect_on m pid step)
effect_on-as s m pid (Make cap) sound h room fine = makes_on-as s m pid cap h
effect_on-as s m pid (Call cases default word) sound h room fine =
    calls_on-as s m pid cases.items default word sound h (named_cases s cases.items (nat_lt (most_cases s.head.edition) (length cases.items)) fine)
effect_on-as s m pid (Close p) sound h room fine =
    closes_on-as s m pid p (channel_at s p) h refl (none_false (is_unmade s p) fault.NoPort (close_fault (channel_at s p)) fine).1
effect_on-as s m pid Exit sound h room fine = exits_on-as s m pid h room
effect_on-as s m pid (Cancel q) sound h room fine = cancels_on-as s m pid q h
effect_on-as s m pid (Start q) sound h room fine = starts_on-as s m pid q h (h.gone q.0 ∙ gone_true (has_gone s q.0) fine)
  where
    gone_true : (b : Bool) → cond b None (Some fault.NotGone) ≡ None → b ≡ true
    gone_true true e = refl
    gone_true false e = cc
effect_on-as s m pid (Reopen p cap) sound h room fine =
    reopens_on-as s m pid p cap (channel_at s p) h refl
    (none_false (nat_lt MOST_CAP cap) fault.BadCap (reopen_fault (channel_at s p)) (none_false (is_unmade s p) fault.NoPort _ fine).1).1
