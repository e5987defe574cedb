-- Which open calls a step leaves, and under which tickets: those that were open, and the caller's new one.
use Rattle.std.proofs.Common.{◌≡◌, ℕ, ◌+◌, ◌≤◌, Bool, true, false, cond, List, ◌++◌, refl, sym, subst, Option, Some, None, arith}
use Rattle.std.specs.List.{AllByRecursion}
use Rattle.hub_base.specs.declared.value.Pid.{Pid}
use Rattle.hub_base.specs.declared.value.Port.{Port}
use Rattle.hub_base.specs.declared.value.Value.{Value}
use Rattle.hub_base.specs.declared.case.Case.{Case}
use Rattle.hub_base.specs.declared.case.Case.TheVariants.{Send, Recv}
use Rattle.hub_base.specs.Entry.{Entry, Step}
use Rattle.hub_base.specs.declared.entry.Step.TheVariants.{Make, Call, Close, Exit, Cancel, Start, Reopen}
use Rattle.hub_base.specs.declared.fault.Fault.{Fault}
use Rattle.hub_base.specs.declared.event.Outcome.TheVariants.{Closed}
use Rattle.hub_base.specs.Ready.{Ending, first_with, is_recv_on, is_send_on}
use Rattle.hub_base.proofs.Lists.{all_snoc}
use Rattle.hub_laws.proofs.Calls.{all_kept}
use Rattle.hub_parts.specs.Records.{Lists, Ticketed}
use Rattle.hub_parts.specs.Lists.{port_at, open_calls, still_open, ticketed, ended_by}
use Rattle.hub_core.specs.declared.tally.Tally.{Tally}
use Rattle.hub_core.specs.Records.{MachineLists}
use Rattle.hub_core.specs.ListReady.{chosen_on}
use Rattle.hub_core.specs.ListFirings.{send_on, send_to, oldest_on, take_value, fetch_on, let_in, recv_from, fire_on}
use Rattle.hub_core.specs.ListSteps.{ListChange, waits_on, chooses_on, effect_on, stalls_on}
use Rattle.hub_core.specs.ListSteps.{all_wait_on, answers_on, none_open, stalled_events, with_board}

module _ (P : Ticketed → Type 0) (n : ℕ) where
  -- the board after a step that is the n-th, against the one before
  pub record Leaves (old new : Lists) : Type 0 where
    pub waiting : AllByRecursion P old.waiting → AllByRecursion P new.waiting
    pub next : old.next_ticket ≤ n → new.next_ticket ≤ n + 1
    pub procs : new.procs ≡ old.procs

  same_calls : (b c : Lists) → c.waiting ≡ b.waiting → c.next_ticket ≡ b.next_ticket → c.procs ≡ b.procs → Leaves b c
  same_calls b c calls next procs = record { waiting = λ h. subst (AllByRecursion P) (sym calls) h; next = λ h. omega (arith, next); procs = procs }

  one_ended : (b c : Lists) (pid : Pid) → c.waiting ≡ still_open pid b.waiting → c.next_ticket ≡ b.next_ticket → c.procs ≡ b.procs → Leaves b c
  one_ended b c pid calls next procs = record {
    waiting = λ h. subst (AllByRecursion P) (sym calls) (all_kept P _ b.waiting h);
    next = λ h. omega (arith, next);
    procs = procs;
  }

  send_to_leaves : (b : Lists) (ts : List Tally) (p : Port) (v : Value) (o : Option Ending) → Leaves b (send_to b ts p v o).board
  send_to_leaves b ts p v None = same_calls b _ refl refl refl
  send_to_leaves b ts p v (Some e) = one_ended b _ e.pid refl refl refl

  send_on_leaves : (b : Lists) (ts : List Tally) (p : Port) (v : Value) → Leaves b (send_on b ts p v).board
  send_on_leaves b ts p v =
      elim (port_at b p).closed as (λ x. Leaves b
      (cond x (record { outcome = Closed; board = b; counts = ts; ended = None }) (send_to b ts p v (first_with (is_recv_on p) (open_calls b.waiting)))).board)
      [ true ↦ same_calls b b refl refl refl | false ↦ send_to_leaves b ts p v (first_with (is_recv_on p) (open_calls b.waiting)) ]

  take_on_leaves : (b : Lists) (ts : List Tally) (p : Port) (o : Option Value) → Leaves b (take_value b ts p o).board
  take_on_leaves b ts p None = same_calls b _ refl refl refl
  take_on_leaves b ts p (Some v) = same_calls b _ refl refl refl

  take_ended_leaves : (b : Lists) (ts : List Tally) (p : Port) (pid : Pid) (o : Option Value) → Leaves b (take_value (ended_by pid b) ts p o).board
  take_ended_leaves b ts p pid None = one_ended b _ pid refl refl refl
  take_ended_leaves b ts p pid (Some v) = one_ended b _ pid refl refl refl

  fetch_on_leaves : (b : Lists) (ts : List Tally) (p : Port) (e : Ending) (u : Value) (o : Option Value)
      → Leaves b (fetch_on (ended_by e.pid b) ts p e u o).board
  fetch_on_leaves b ts p e u None = one_ended b _ e.pid refl refl refl
  fetch_on_leaves b ts p e u (Some v) = one_ended b _ e.pid refl refl refl

  let_in_leaves : (b : Lists) (ts : List Tally) (p : Port) (e : Ending) (k : Case) → Leaves b (let_in (ended_by e.pid b) ts p e k).board
  let_in_leaves b ts p e (Send q u) = fetch_on_leaves b ts p e u (oldest_on b p)
  let_in_leaves b ts p e (Recv q) = take_ended_leaves b ts p e.pid (oldest_on b p)

  recv_from_leaves : (b : Lists) (ts : List Tally) (p : Port) (o : Option Ending) → Leaves b (recv_from b ts p o).board
  recv_from_leaves b ts p None = take_on_leaves b ts p (oldest_on b p)
  recv_from_leaves b ts p (Some e) = let_in_leaves b ts p e e.at.case

  fire_on_leaves : (b : Lists) (ts : List Tally) (k : Case) → Leaves b (fire_on b ts k).board
  fire_on_leaves b ts (Send p v) = send_on_leaves b ts p v
  fire_on_leaves b ts (Recv p) = recv_from_leaves b ts p (first_with (is_send_on p) (open_calls b.waiting))

  waits_on_leaves : (b : Lists) (ts : List Tally) (pid : Pid) (cases : List Case) (default : Bool) → P (ticketed pid n cases)
      → Leaves b (waits_on b ts n pid cases default).board
  waits_on_leaves b ts pid cases true new = same_calls b b refl refl refl
  waits_on_leaves b ts pid cases false new = record { waiting = λ h. all_snoc P b.waiting (ticketed pid n cases) h new; next = λ h. omega arith; procs = refl }

  chooses_on_leaves : (b : Lists) (ts : List Tally) (pid : Pid) (cases : List Case) (default : Bool) (o : Option (ℕ × Case)) → P (ticketed pid n cases)
      → Leaves b (chooses_on b ts n pid cases default o).board
  chooses_on_leaves b ts pid cases default None new = waits_on_leaves b ts pid cases default new
  chooses_on_leaves b ts pid cases default (Some x) new = fire_on_leaves b ts x.1

  -- a call of this step would be opened under the n-th ticket
  abbrev pub Opens : Pid → Step → Type 0
  Opens pid (Make cap) = Unit {0}
  Opens pid (Call cases default word) = P (ticketed pid n cases.items)
  Opens pid (Close p) = Unit {0}
  Opens pid Exit = Unit {0}
  Opens pid (Cancel q) = Unit {0}
  Opens pid (Start q) = Unit {0}
  Opens pid (Reopen p cap) = Unit {0}

  pub effect_on_leaves : (m : MachineLists) (pid : Pid) (step : Step) → m.steps ≡ n → Opens pid step → Leaves m.board (effect_on m pid step).machine.board
  effect_on_leaves m pid (Make cap) is new = same_calls m.board _ refl refl refl
  effect_on_leaves m pid (Call cases default word) is new =
      rw is (chooses_on_leaves m.board m.counts pid cases.items default (chosen_on m.board cases.items word) new)
  effect_on_leaves m pid (Close p) is new = record { waiting = λ h. all_kept P _ m.board.waiting h; next = λ h. omega arith; procs = refl }
  effect_on_leaves m pid Exit is new = same_calls m.board _ refl refl refl
  effect_on_leaves m pid (Cancel q) is new = one_ended m.board _ q refl refl refl
  effect_on_leaves m pid (Start q) is new = same_calls m.board _ refl refl refl
  effect_on_leaves m pid (Reopen p cap) is new = same_calls m.board _ refl refl refl

  stalls_on_leaves : (b : Lists) (c : ListChange) → Leaves b c.machine.board → Leaves b (stalls_on c).machine.board
  stalls_on_leaves b c h =
      elim (all_wait_on c.machine.board c.machine.gone) as (λ x. Leaves b (cond x (record {
        machine = with_board c.machine (none_open c.machine.board) c.machine.counts;
        events = c.events ++ stalled_events c.machine.board.waiting;
      }) c).machine.board)
      [ true ↦ record { waiting = λ a. tt; next = h.next; procs = h.procs } | false ↦ h ]

  pub answers_on_leaves : (m : MachineLists) (e : Entry) (o : Option Fault) → m.steps ≡ n → Opens e.pid e.step
      → Leaves m.board (answers_on m e o).machine.board
  answers_on_leaves m e None is new = stalls_on_leaves m.board (effect_on m e.pid e.step) (effect_on_leaves m e.pid e.step is new)
  answers_on_leaves m e (Some f) is new = same_calls m.board m.board refl refl refl
