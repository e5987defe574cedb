-- The first entry of a queue is the oldest open call with such a case.
use Rattle.std.proofs.Common.{◌≡◌, ℕ, ◌+◌, ◌-◌, ◌<◌, ◌≤◌, ◌==◌, ◌||◌, Bool, true, false, not, cond, List, [], ◌∷◌, ◌++◌}
use Rattle.std.proofs.Common.{filter, find, refl, ap, ◌∙◌, sym, subst, arith, Option, Some, None, suc, eq-eqb, slice_get}
use Rattle.std.specs.List.{AllByRecursion}
use Rattle.std.proofs.lemmas.Bool.{ne_eqb, le-ltb, lt-ltb}
use Rattle.hub_base.specs.declared.value.Pid.{Pid}
use Rattle.hub_base.specs.declared.value.Port.{Port}
use Rattle.hub_base.specs.declared.case.Case.{Case}
use Rattle.hub_base.specs.declared.case.Case.TheVariants.{Send, Recv}
use Rattle.hub_base.specs.Ready.{is_send_on, is_recv_on, is_on, lowest, lowest_from, first_with, or_else, Placed}
use Rattle.hub_parts.specs.declared.side.Side.{Side}
use Rattle.hub_parts.specs.declared.side.Side.TheVariants as side
use Rattle.hub_parts.specs.declared.wait_queue.Waiter.{Waiter}
use Rattle.hub_parts.specs.Records.{Ticketed, Calls, ChannelLists}
use Rattle.hub_parts.specs.Queues.{lives, live_of, waiters, waiters_of, waiters_from, waiter_at, pid_at, case_at, is_before}
use Rattle.hub_parts.specs.Lists.{open_calls, still_open, passes}
use Rattle.hub_parts.specs.Channels.{queue_of, older, older_side, first_on}
use Rattle.hub_parts.specs.Keeps.{QueueKeeps, Ascending}
use Rattle.hub_parts.proofs.Lists.{all_filter}
use Rattle.hub_parts.proofs.Endings.{dead_below}

abbrev pub first : List Waiter → Option Waiter
first es = slice_get es 0

find_first : {X : Type 0} (test : X → Bool) (xs : List X) → find test xs ≡ slice_get (filter test xs) 0
find_first test [] = refl
find_first test (x ∷ xs) = elim (test x) as (λ b. cond b (Some x) (find test xs) ≡ slice_get (cond b (x ∷ filter test xs) (filter test xs)) 0) [
  | true ↦ refl
  | false ↦ find_first test xs
]

-- what a queue finds is the first entry of the calls
pub found_first : (test : Case → Bool) (ws : List Ticketed) (items : List Waiter) → live_of ws items ≡ waiters test ws
    → find (lives ws) items ≡ first (waiters test ws)
found_first test ws items live = find_first (lives ws) items ∙ ap first live

first_append : (xs ys : List Waiter) → first (xs ++ ys) ≡ or_else (first xs) (first ys)
first_append [] ys = refl
first_append (x ∷ xs) ys = refl

-- the first entry of one call is its lowest case
pub data Lowest (test : Case → Bool) (pid : Pid) (ticket i : ℕ) (cases : List Case) : Type 0 where
  none : lowest_from i test cases ≡ None → waiters_from test pid ticket i cases ≡ [] → Lowest test pid ticket i cases
  some : (at : Placed) (rest : List Waiter) → lowest_from i test cases ≡ Some at → waiters_from test pid ticket i cases ≡ waiter_at pid ticket at.index ∷ rest
      → i ≤ at.index → slice_get cases (at.index - i) ≡ Some at.case → test at.case ≡ true → Lowest test pid ticket i cases

lowest_step : (test : Case → Bool) (pid : Pid) (ticket i : ℕ) (c : Case) (cases : List Case) (b : Bool) → test c ≡ b
    → Lowest test pid ticket (i + 1) cases → Lowest test pid ticket i (c ∷ cases)
lowest_step test pid ticket i c cases true e l = some (record { index = i; case = c }) (waiters_from test pid ticket (i + 1) cases)
    (rw e refl) (rw e refl) (omega arith) (let same : i - i ≡ 0 = omega arith in rw same refl) e
lowest_step test pid ticket i c cases false e (none l w) = none (rw e l) (rw e w)
lowest_step test pid ticket i c cases false e (some at rest l w le s t) =
    let later : at.index - i ≡ suc (at.index - (i + 1)) = omega arith in
    some at rest (rw e l) (rw e w) (omega arith) (rw later s) t

pub lowest_of : (test : Case → Bool) (pid : Pid) (ticket i : ℕ) (cases : List Case) → Lowest test pid ticket i cases
lowest_of test pid ticket i [] = none refl refl
lowest_of test pid ticket i (c ∷ cases) = lowest_step test pid ticket i c cases (test c) refl (lowest_of test pid ticket (i + 1) cases)

-- what the first entry of the calls tells
pub record Found (test : Case → Bool) (ws : List Ticketed) (e : Waiter) : Type 0 where
  pub case : Case
  pub owner : pid_at ws e.ticket ≡ Some e.pid
  pub at : case_at ws e.ticket e.case ≡ Some case
  pub passes : test case ≡ true
  pub first : first_with test (open_calls ws) ≡ Some (record { pid = e.pid; at = record { index = e.case; case = case } })
  pub dies : lives (still_open e.pid ws) e ≡ false
  pub known : (t : ℕ) → AllByRecursion (λ v. t < v.ticket) ws → t < e.ticket

abbrev pub Tells : (Case → Bool) → List Ticketed → Option Waiter → Type 0
Tells test ws None = first_with test (open_calls ws) ≡ None
Tells test ws (Some e) = Found test ws e

later_other : (t u : ℕ) → t < u → (t == u) ≡ false
later_other t u less = ne_eqb t u (λ e. omega arith)

dies_later : (w : Ticketed) (ws : List Ticketed) (e : Waiter) → w.ticket < e.ticket → lives (still_open e.pid ws) e ≡ false
    → lives (still_open e.pid (w ∷ ws)) e ≡ false
dies_later w ws e less d =
    elim (not (w.call.pid.0 == e.pid.0)) as (λ b. lives (cond b (w ∷ still_open e.pid ws) (still_open e.pid ws)) e ≡ false)
    [ true ↦ rw (later_other w.ticket e.ticket less) d | false ↦ d ]

tells_later : (test : Case → Bool) (w : Ticketed) (ws : List Ticketed) (o : Option Waiter) → AllByRecursion (λ v. w.ticket < v.ticket) ws
    → lowest test w.call.cases ≡ None → Tells test ws o → Tells test (w ∷ ws) o
tells_later test w ws None above l t = rw l t
tells_later test w ws (Some e) above l t =
    let less : w.ticket < e.ticket = t.known w.ticket above in
    record {
      case = t.case;
      owner = rw (later_other w.ticket e.ticket less) t.owner;
      at = rw (later_other w.ticket e.ticket less) t.at;
      passes = t.passes;
      first = rw l t.first;
      dies = dies_later w ws e less t.dies;
      known = λ n a. t.known n a.1;
    }

tells_here : (test : Case → Bool) (w : Ticketed) (ws : List Ticketed) (at : Placed) → AllByRecursion (λ v. w.ticket < v.ticket) ws
    → lowest test w.call.cases ≡ Some at → slice_get w.call.cases at.index ≡ Some at.case → test at.case ≡ true
    → Found test (w ∷ ws) (waiter_at w.call.pid w.ticket at.index)
tells_here test w ws at above l s t = record {
  case = at.case;
  owner = rw (eq-eqb w.ticket w.ticket refl) refl;
  at = rw (eq-eqb w.ticket w.ticket refl) s;
  passes = t;
  first = rw l refl;
  dies = rw (eq-eqb w.call.pid.0 w.call.pid.0 refl)
      (dead_below w.ticket w.call.pid (still_open w.call.pid ws) (all_filter (λ v. w.ticket < v.ticket) (λ v. not (v.call.pid.0 == w.call.pid.0)) ws above));
  known = λ n a. a.0;
}

tells_step : (test : Case → Bool) (w : Ticketed) (ws : List Ticketed) → AllByRecursion (λ v. w.ticket < v.ticket) ws
    → Lowest test w.call.pid w.ticket 0 w.call.cases → Tells test ws (first (waiters test ws)) → Tells test (w ∷ ws) (first (waiters test (w ∷ ws)))
tells_step test w ws above (none l e) t = rw e (tells_later test w ws (first (waiters test ws)) above l t)
tells_step test w ws above (some at rest l e le s p) t =
    let from0 : at.index - 0 ≡ at.index = omega arith in
    rw e (tells_here test w ws at above l (rw from0 at s) p)

pub tells : (test : Case → Bool) (ws : List Ticketed) → Ascending ws → Tells test ws (first (waiters test ws))
tells test [] a = refl
tells test (w ∷ ws) a = tells_step test w ws a.0 (lowest_of test w.call.pid w.ticket 0 w.call.cases) (tells test ws a.1)

-- the older of the firsts of two queues
abbrev pub earlier : Option Waiter → Option Waiter → Option Waiter
earlier None r = r
earlier (Some s) None = Some s
earlier (Some s) (Some r) = cond (is_before r s) (Some r) (Some s)

abbrev AtLeast : ℕ → ℕ → Option Waiter → Type 0
AtLeast i ticket None = Unit {0}
AtLeast i ticket (Some e) = (i ≤ e.case) × (e.ticket ≡ ticket)

abbrev Above : ℕ → Option Waiter → Type 0
Above t None = Unit {0}
Above t (Some e) = t < e.ticket

at_least : (test : Case → Bool) (pid : Pid) (ticket i : ℕ) (cases : List Case) → Lowest test pid ticket i cases
    → AtLeast i ticket (first (waiters_from test pid ticket i cases))
at_least test pid ticket i cases (none l e) = rw e tt
at_least test pid ticket i cases (some at rest l e le s t) = rw e (le, refl)

above : (test : Case → Bool) (t : ℕ) (ws : List Ticketed) (o : Option Waiter) → AllByRecursion (λ v. t < v.ticket) ws → Tells test ws o → Above t o
above test t ws None a f = tt
above test t ws (Some e) a f = f.known t a

not_before : (r s : Waiter) → s.ticket < r.ticket → is_before r s ≡ false
not_before r s less = rw (le-ltb r.ticket s.ticket (omega arith), ne_eqb r.ticket s.ticket (λ e. omega arith)) refl

before_by_case : (r s : Waiter) → r.ticket ≡ s.ticket → r.case < s.case → is_before r s ≡ true
before_by_case r s same less = rw (le-ltb r.ticket s.ticket (omega arith), eq-eqb r.ticket s.ticket same, lt-ltb r.case s.case less) refl

not_before_by_case : (r s : Waiter) → r.ticket ≡ s.ticket → s.case ≤ r.case → is_before r s ≡ false
not_before_by_case r s same le = rw (le-ltb r.ticket s.ticket (omega arith), eq-eqb r.ticket s.ticket same, le-ltb r.case s.case le) refl

send_first : (pid : Pid) (ticket i : ℕ) (o : Option Waiter) → AtLeast (i + 1) ticket o
    → Some (waiter_at pid ticket i) ≡ earlier (Some (waiter_at pid ticket i)) o
send_first pid ticket i None a = refl
send_first pid ticket i (Some r) a =
    let n : i ≤ r.case = (let m : i + 1 ≤ r.case = a.0 in omega arith) in
    rw (not_before_by_case r (waiter_at pid ticket i) a.1 n) refl

recv_first : (pid : Pid) (ticket i : ℕ) (o : Option Waiter) → AtLeast (i + 1) ticket o
    → Some (waiter_at pid ticket i) ≡ earlier o (Some (waiter_at pid ticket i))
recv_first pid ticket i None a = refl
recv_first pid ticket i (Some s) a =
    let n : i < s.case = (let m : i + 1 ≤ s.case = a.0 in omega arith) in
    rw (before_by_case (waiter_at pid ticket i) s (sym a.1) n) refl

first_of_call : (p : Port) (pid : Pid) (ticket i : ℕ) (cases : List Case) → first (waiters_from (is_on p) pid ticket i cases)
    ≡ earlier (first (waiters_from (is_send_on p) pid ticket i cases)) (first (waiters_from (is_recv_on p) pid ticket i cases))
first_of_call p pid ticket i [] = refl
first_of_call p pid ticket i (Send q v ∷ cases) =
    let on = waiters_from (is_on p) pid ticket (i + 1) cases in
    let sends = waiters_from (is_send_on p) pid ticket (i + 1) cases in
    let recvs = waiters_from (is_recv_on p) pid ticket (i + 1) cases in
    let w = waiter_at pid ticket i in
    elim (q.0 == p.0) as (λ b. first (cond (b || false) (w ∷ on) on) ≡ earlier (first (cond b (w ∷ sends) sends)) (first recvs)) [
      | true ↦ send_first pid ticket i (first recvs) (at_least (is_recv_on p) pid ticket (i + 1) cases (lowest_of (is_recv_on p) pid ticket (i + 1) cases))
      | false ↦ first_of_call p pid ticket (i + 1) cases
    ]
first_of_call p pid ticket i (Recv q ∷ cases) =
    let on = waiters_from (is_on p) pid ticket (i + 1) cases in
    let sends = waiters_from (is_send_on p) pid ticket (i + 1) cases in
    let recvs = waiters_from (is_recv_on p) pid ticket (i + 1) cases in
    let w = waiter_at pid ticket i in
    elim (q.0 == p.0) as (λ b. first (cond (false || b) (w ∷ on) on) ≡ earlier (first sends) (first (cond b (w ∷ recvs) recvs))) [
      | true ↦ recv_first pid ticket i (first sends) (at_least (is_send_on p) pid ticket (i + 1) cases (lowest_of (is_send_on p) pid ticket (i + 1) cases))
      | false ↦ first_of_call p pid ticket (i + 1) cases
    ]

merged : (t : ℕ) (xs xr ts tr : Option Waiter) → AtLeast 0 t xs → AtLeast 0 t xr → Above t ts → Above t tr
    → or_else (earlier xs xr) (earlier ts tr) ≡ earlier (or_else xs ts) (or_else xr tr)
merged t None None ts tr a b c d = refl
merged t (Some s) (Some r) ts tr a b c d = elim (is_before r s) as (λ b. or_else (cond b (Some r) (Some s)) (earlier ts tr) ≡ cond b (Some r) (Some s)) [
  | true ↦ refl
  | false ↦ refl
]
merged t (Some s) None ts None a b c d = refl
merged t (Some s) None ts (Some r) a b c d =
    let less : s.ticket < r.ticket = (let e : s.ticket ≡ t = a.1 in let f : t < r.ticket = d in omega arith) in
    rw (not_before r s less) refl
merged t None (Some r) None tr a b c d = refl
merged t None (Some r) (Some s) tr a b c d =
    let less : r.ticket < s.ticket = (let e : r.ticket ≡ t = b.1 in let f : t < s.ticket = c in omega arith) in
    rw (lt-ltb r.ticket s.ticket less) refl

first_waiter : (p : Port) (ws : List Ticketed) → Ascending ws
    → first (waiters (is_on p) ws) ≡ earlier (first (waiters (is_send_on p) ws)) (first (waiters (is_recv_on p) ws))
first_waiter p [] a = refl
first_waiter p (w ∷ ws) a =
    let all = λ (test : Case → Bool). at_least test w.call.pid w.ticket 0 w.call.cases (lowest_of test w.call.pid w.ticket 0 w.call.cases) in
    let rest = λ (test : Case → Bool). above test w.ticket ws (first (waiters test ws)) a.0 (tells test ws a.1) in
    rw (
      first_append (waiters_of (is_on p) w) (waiters (is_on p) ws),
      first_append (waiters_of (is_send_on p) w) (waiters (is_send_on p) ws),
      first_append (waiters_of (is_recv_on p) w) (waiters (is_recv_on p) ws),
      first_of_call p w.call.pid w.ticket 0 w.call.cases,
      first_waiter p ws a.1,
    )
    (merged w.ticket (first (waiters_of (is_send_on p) w)) (first (waiters_of (is_recv_on p) w)) (first (waiters (is_send_on p) ws))
    (first (waiters (is_recv_on p) ws)) (all (is_send_on p)) (all (is_recv_on p)) (rest (is_send_on p)) (rest (is_recv_on p)))

picked : (ws : List Ticketed) (c : ChannelLists) (fs fr : Option Waiter) → find (lives ws) c.senders.items ≡ fs
    → find (lives ws) c.receivers.items ≡ fr → find (lives ws) (queue_of (older fs fr) c).items ≡ earlier fs fr
picked ws c None fr e f = f
picked ws c (Some s) None e f = e
picked ws c (Some s) (Some r) e f =
    elim (is_before r s) as (λ b. find (lives ws) (queue_of (cond b side.Recv side.Send) c).items ≡ cond b (Some r) (Some s)) [
      | true ↦ f
      | false ↦ e
    ]

-- the first entry of the side that has the older one is the first of the calls' entries on the port
older_first : (p : Port) (c : Calls) (ch : ChannelLists) → Ascending c.waiting → ((s : Side) → QueueKeeps (passes p s) c (queue_of s ch))
    → first_on (older_side c.waiting ch) c.waiting ch ≡ first (waiters (is_on p) c.waiting)
older_first p c ch a keeps =
    let finds = λ (s : Side). found_first (passes p s) c.waiting (queue_of s ch).items (keeps s).live in
    picked c.waiting ch _ _ refl refl
    ∙ ap (λ o. earlier o (first_on side.Recv c.waiting ch)) (finds side.Send)
    ∙ ap (earlier (first (waiters (is_send_on p) c.waiting))) (finds side.Recv)
    ∙ sym (first_waiter p c.waiting a)

some_case : (x y : Case) → Some x ≡ Some y → x ≡ y
some_case x y e = cc

-- two tests that find one entry find one call
same_call : (test also : Case → Bool) (ws : List Ticketed) (o : Option Waiter) → Tells test ws o → Tells also ws o
    → first_with test (open_calls ws) ≡ first_with also (open_calls ws)
same_call test also ws None t u = t ∙ sym u
same_call test also ws (Some e) t u =
    let same : t.case ≡ u.case = some_case t.case u.case (sym t.at ∙ u.at) in
    rw same at t.first ∙ sym u.first

-- so the oldest call on that side is the oldest on the port
pub older_call : (p : Port) (c : Calls) (ch : ChannelLists) → Ascending c.waiting → ((s : Side) → QueueKeeps (passes p s) c (queue_of s ch)) → (s : Side)
    → s ≡ older_side c.waiting ch → first_with (passes p s) (open_calls c.waiting) ≡ first_with (is_on p) (open_calls c.waiting)
older_call p c ch a keeps s is =
    let ws = c.waiting in
    let same : first (waiters (passes p s) ws) ≡ first (waiters (is_on p) ws) =
    sym (found_first (passes p s) ws (queue_of s ch).items (keeps s).live) ∙ ap (λ s. first_on s ws ch) is ∙ older_first p c ch a keeps in
    same_call (passes p s) (is_on p) ws (first (waiters (is_on p) ws)) (subst (Tells (passes p s) ws) same (tells (passes p s) ws a)) (tells (is_on p) ws a)
