-- The stall rule on the lists is that of the meaning; and why an entry is not admitted.
use Rattle.std.proofs.Common.{◌≡◌, ℕ, zero, suc, ◌+◌, ◌==◌, ◌<◌, ◌||◌, ◌&&◌, not, nat_lt, Bool, true, false}
use Rattle.std.proofs.Common.{cond, List, [], ◌∷◌, ◌++◌, length, refl, ap, ◌∙◌, sym, Some, None, arith}
use Rattle.std.specs.List.{list_any, list_all, filter_map, range_with_len}
use Rattle.std.proofs.lemmas.List.{length-map}
use Rattle.hub_base.specs.declared.value.Pid.{Pid}
use Rattle.hub_base.specs.declared.fault.Fault.TheVariants as fault
use Rattle.hub_base.specs.declared.event.What.TheVariants as what
use Rattle.hub_base.specs.State.{State}
use Rattle.hub_base.specs.Steps.{Change, tells, has_gone, is_waiting, all_wait, stalls, refusal}
use Rattle.hub_parts.specs.Records.{Ticketed}
use Rattle.hub_parts.specs.Lists.{open_calls}
use Rattle.hub_core.specs.Records.{MachineLists}
use Rattle.hub_core.specs.ListSteps.{ListChange, gone_on, open_on, all_wait_on, none_open, stalled_events, stalls_on, refusal_of, with_board}
use Rattle.hub_core.specs.Follows.{Matches}
use Rattle.hub_core.specs.Agrees.{StepsAs}

pub open_on-calls : (q : ℕ) (ws : List Ticketed) → open_on ws q ≡ list_any (λ call. call.pid.0 == q) (open_calls ws)
open_on-calls q [] = refl
open_on-calls q (w ∷ ws) = ap (λ b. (w.call.pid.0 == q) || b) (open_on-calls q ws)

pub open_on-as : (s : State) (m : MachineLists) (q : ℕ) → Matches s m → open_on m.board.waiting q ≡ is_waiting s q
open_on-as s m q h = open_on-calls q m.board.waiting ∙ ap (list_any (λ call. call.pid.0 == q)) h.calls

all_in_range : (f g : ℕ → Bool) (a n : ℕ) → ((q : ℕ) → q < a + n → f q ≡ g q) → list_all f (range_with_len a n) ≡ list_all g (range_with_len a n)
all_in_range f g a zero same = refl
all_in_range f g a (suc n) same =
    ap (λ b. b && list_all f (range_with_len (a + 1) n)) (same a (omega arith))
    ∙ ap (λ b. g a && b) (all_in_range f g (a + 1) n (λ q h. same q (omega arith)))

pub count-calls : (s : State) (m : MachineLists) → Matches s m → length m.board.waiting ≡ length s.parked
count-calls s m h = sym (length-map m.board.waiting (λ (w : Ticketed). w.call)) ∙ ap length h.calls

pub all_wait_on-as : (s : State) (m : MachineLists) → Matches s m → all_wait_on m.board m.gone ≡ all_wait s
all_wait_on-as s m h =
    let each : list_all (λ q. gone_on m.gone q || open_on m.board.waiting q) (range_with_len 0 s.head.procs)
    ≡ list_all (λ q. has_gone s q || is_waiting s q) (range_with_len 0 s.head.procs) =
    all_in_range _ _ 0 s.head.procs
    (λ q below. ap (λ b. b || open_on m.board.waiting q) (h.gone q) ∙ ap (λ b. has_gone s q || b) (open_on-as s m q h)) in
    rw (count-calls s m h, h.procs) (ap (λ b. not (length s.parked == 0) && b) each)

stalled-calls : (ws : List Ticketed) → stalled_events ws ≡ filter_map (λ call. Some (tells call.pid what.Stalled)) (open_calls ws)
stalled-calls [] = refl
stalled-calls (w ∷ ws) = ap (λ es. tells w.call.pid what.Stalled ∷ es) (stalled-calls ws)

stalls_by : (c : Change) (d : ListChange) (all : Bool) → StepsAs c d →
    StepsAs (cond all (record {
      state = record c.state { parked = [] };
      events = c.events ++ filter_map (λ call. Some (tells call.pid what.Stalled)) c.state.parked;
    }) c)
    (cond all (record {
      machine = with_board d.machine (none_open d.machine.board) d.machine.counts;
      events = d.events ++ stalled_events d.machine.board.waiting;
    }) d)
stalls_by c d true same = record {
  events =
      ap (λ es. es ++ stalled_events d.machine.board.waiting) same.events
      ∙ ap (λ es. c.events ++ es) (stalled-calls d.machine.board.waiting ∙ ap (filter_map (λ call. Some (tells call.pid what.Stalled))) same.state.calls);
  state = record {
    edition = same.state.edition;
    procs = same.state.procs;
    calls = refl;
    ports = same.state.ports;
    counts = same.state.counts;
    gone = same.state.gone;
  };
}
stalls_by c d false same = same

pub stalls_on-as : (c : Change) (d : ListChange) → StepsAs c d → StepsAs (stalls c) (stalls_on d)
stalls_on-as c d same = rw (all_wait_on-as c.state d.machine same.state) (stalls_by c d (all_wait c.state) same)

-- ---- why an entry is not admitted
refusal_by : (s : State) (m : MachineLists) (pid : Pid) (below : Bool) → Matches s m → nat_lt pid.0 s.head.procs ≡ below →
    cond (not below) (Some fault.NoProcess) (cond (gone_on m.gone pid.0) (Some fault.Gone) (cond (open_on m.board.waiting pid.0) (Some fault.Busy) None))
    ≡ cond (not below) (Some fault.NoProcess) (cond (has_gone s pid.0) (Some fault.Gone) (cond (is_waiting s pid.0) (Some fault.Busy) None))
refusal_by s m pid false h is = refl
refusal_by s m pid true h is = rw (h.gone pid.0, open_on-as s m pid.0 h) refl

pub refusal_of-as : (s : State) (m : MachineLists) (pid : Pid) → Matches s m → refusal_of m.board m.gone pid ≡ refusal s pid
refusal_of-as s m pid h = rw h.procs (refusal_by s m pid (nat_lt pid.0 s.head.procs) h refl)
