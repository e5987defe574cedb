-- A call that ends leaves every queue.
use Rattle.std.proofs.Common.{◌≡◌, ℕ, ◌+◌, ◌<◌, ◌≤◌, ◌==◌, ◌&&◌, ◌||◌, Bool, true, false, not, cond, List, [], ◌∷◌, ◌++◌}
use Rattle.std.proofs.Common.{length, filter, find, refl, ap, ◌∙◌, sym, arith, Some, None, subst, eq-eqb, suc}
use Rattle.std.specs.List.{AllByRecursion}
use Rattle.std.proofs.lemmas.Bool.{ne_eqb, true≢false, false_from_ne_true}
use Rattle.std.proofs.lemmas.List.Elements.{filter-append}
use Rattle.circular_buffer.specs.Buffer.{Buffer}
use Rattle.hub_base.specs.declared.value.Pid.{Pid}
use Rattle.hub_base.specs.declared.case.Case.{Case}
use Rattle.hub_parts.specs.declared.wait_queue.Waiter.{Waiter}
use Rattle.hub_parts.specs.Records.{Ticketed, Calls}
use Rattle.hub_parts.specs.Queues.{has_call, lives, live_of, after_first, from_first, taken, passed, waiters, waiters_of, waiters_from, waiter_at}
use Rattle.hub_parts.specs.Lists.{still_open}
use Rattle.hub_parts.specs.Keeps.{QueueKeeps, Ascending, without_call}
use Rattle.hub_parts.proofs.Lists.{all_filter}

within_step : {X : Type 0} (p q : X → Bool) (x : X) (xs : List X) (a b : Bool) → p x ≡ a → q x ≡ b → (p x ≡ true → q x ≡ true)
    → filter p (filter q xs) ≡ filter p xs → filter p (filter q (x ∷ xs)) ≡ filter p (x ∷ xs)
within_step p q x xs true true e f h ih = rw (f, e) (ap (λ ys. x ∷ ys) ih)
within_step p q x xs true false e f h ih = absurd (true≢false (sym (h e) ∙ f))
within_step p q x xs false true e f h ih = rw (f, e) ih
within_step p q x xs false false e f h ih = rw (f, e) ih

-- a filter within a filter
pub filter_within : {X : Type 0} (p q : X → Bool) (xs : List X) → ((x : X) → p x ≡ true → q x ≡ true) → filter p (filter q xs) ≡ filter p xs
filter_within p q [] h = refl
filter_within p q (x ∷ xs) h = within_step p q x xs (p x) (q x) refl refl (h x) (filter_within p q xs h)

nil_cond : (b : Bool) → ◌≡◌ {A = List Waiter} [] (cond b [] [])
nil_cond true = refl
nil_cond false = refl

entry_step : (p : ℕ → Pid → Bool) (a b : Bool) (e : Waiter) (es : List Waiter) → p e.ticket e.pid ≡ b
    → filter (λ e. p e.ticket e.pid) es ≡ cond (p e.ticket e.pid) es []
    → filter (λ e. p e.ticket e.pid) (cond a (e ∷ es) es) ≡ cond (p e.ticket e.pid) (cond a (e ∷ es) es) []
entry_step p true true e es f ih = rw f (ap (λ ys. e ∷ ys) (ih ∙ rw f refl))
entry_step p true false e es f ih = rw f (ih ∙ rw f refl)
entry_step p false b e es f ih = ih

-- all the entries of a call have its ticket and its process
filter-waiters_from : (p : ℕ → Pid → Bool) (test : Case → Bool) (pid : Pid) (ticket i : ℕ) (cases : List Case)
    → filter (λ e. p e.ticket e.pid) (waiters_from test pid ticket i cases) ≡ cond (p ticket pid) (waiters_from test pid ticket i cases) []
filter-waiters_from p test pid ticket i [] = nil_cond (p ticket pid)
filter-waiters_from p test pid ticket i (c ∷ cases) =
    entry_step p (test c) (p ticket pid) (waiter_at pid ticket i) (waiters_from test pid ticket (i + 1) cases) refl
    (filter-waiters_from p test pid ticket (i + 1) cases)

pub filter-waiters : (p : ℕ → Pid → Bool) (test : Case → Bool) (ws : List Ticketed)
    → filter (λ e. p e.ticket e.pid) (waiters test ws) ≡ waiters test (filter (λ w. p w.ticket w.call.pid) ws)
filter-waiters p test [] = refl
filter-waiters p test (w ∷ ws) =
    filter-append (λ e. p e.ticket e.pid) (waiters_of test w) (waiters test ws)
    ∙ rw (filter-waiters_from p test w.call.pid w.ticket 0 w.call.cases, filter-waiters p test ws)
    (elim (p w.ticket w.call.pid) as (λ b. cond b (waiters_of test w) [] ++ waiters test (filter (λ w. p w.ticket w.call.pid) ws)
    ≡ waiters test (cond b (w ∷ filter (λ w. p w.ticket w.call.pid) ws) (filter (λ w. p w.ticket w.call.pid) ws))) [ true ↦ refl | false ↦ refl ])

-- a ticket below all others is no ticket of theirs
pub dead_below : (t : ℕ) (pid : Pid) (ws : List Ticketed) → AllByRecursion (λ v. t < v.ticket) ws → has_call ws t pid ≡ false
dead_below t pid [] a = refl
dead_below t pid (w ∷ ws) a = rw (ne_eqb w.ticket t (λ e. let less : t < w.ticket = a.0 in omega arith)) (dead_below t pid ws a.1)

pub ascending_filter : (keep : Ticketed → Bool) (ws : List Ticketed) → Ascending ws → Ascending (filter keep ws)
ascending_filter keep [] a = tt
ascending_filter keep (w ∷ ws) a = elim (keep w) as (λ b. Ascending (cond b (w ∷ filter keep ws) (filter keep ws))) [
  | true ↦ (all_filter (λ v. w.ticket < v.ticket) keep ws a.0, ascending_filter keep ws a.1)
  | false ↦ ascending_filter keep ws a.1
]

-- the same calls pass
filter_same_above : (p q : Ticketed → Bool) (t : ℕ) (ws : List Ticketed) → AllByRecursion (λ v. t < v.ticket) ws
    → ((v : Ticketed) → t < v.ticket → p v ≡ q v) → filter p ws ≡ filter q ws
filter_same_above p q t [] a h = refl
filter_same_above p q t (w ∷ ws) a h = rw (h w a.0, filter_same_above p q t ws a.1 h) refl

later_is_other : (t u : ℕ) (same b : Bool) → t < u → (((t == u) && same) || b) ≡ b
later_is_other t u same b less = rw (ne_eqb t u (λ e. omega arith)) refl

live_step : (keep : Ticketed → Bool) (w : Ticketed) (ws : List Ticketed) (b : Bool) → keep w ≡ b → AllByRecursion (λ v. w.ticket < v.ticket) ws
    → filter (λ v. has_call (filter keep ws) v.ticket v.call.pid) ws ≡ filter keep ws
    → filter (λ v. has_call (filter keep (w ∷ ws)) v.ticket v.call.pid) (w ∷ ws) ≡ filter keep (w ∷ ws)
live_step keep w ws true e a ih =
    let same : filter keep (w ∷ ws) ≡ w ∷ filter keep ws = rw e refl in
    subst (λ ks. filter (λ v. has_call ks v.ticket v.call.pid) (w ∷ ws) ≡ ks) (sym same)
    (rw (eq-eqb w.ticket w.ticket refl, eq-eqb w.call.pid.0 w.call.pid.0 refl)
    (ap (λ ys. w ∷ ys)
    (filter_same_above (λ v. has_call (w ∷ filter keep ws) v.ticket v.call.pid) (λ v. has_call (filter keep ws) v.ticket v.call.pid) w.ticket ws a
    (λ v less. later_is_other w.ticket v.ticket (w.call.pid.0 == v.call.pid.0) _ less)
    ∙ ih)))
live_step keep w ws false e a ih =
    let same : filter keep (w ∷ ws) ≡ filter keep ws = rw e refl in
    subst (λ ks. filter (λ v. has_call ks v.ticket v.call.pid) (w ∷ ws) ≡ ks) (sym same)
    (rw (dead_below w.ticket w.call.pid (filter keep ws) (all_filter (λ v. w.ticket < v.ticket) keep ws a)) ih)

-- of the calls, those that are among some of them are those
pub live_calls : (keep : Ticketed → Bool) (ws : List Ticketed) → Ascending ws
    → filter (λ w. has_call (filter keep ws) w.ticket w.call.pid) ws ≡ filter keep ws
live_calls keep [] a = refl
live_calls keep (w ∷ ws) a = live_step keep w ws (keep w) refl a.0 (live_calls keep ws a.1)

-- what is open among some of the calls is open among all
or_true : (a b : Bool) → b ≡ true → (a || b) ≡ true
or_true true b e = refl
or_true false b e = e

both : (a b d : Bool) → (b ≡ true → d ≡ true) → (a || b) ≡ true → (a || d) ≡ true
both true b d h e = refl
both false b d h e = h e

still_step : (keep : Ticketed → Bool) (w : Ticketed) (ws : List Ticketed) (t : ℕ) (pid : Pid) (b : Bool) → keep w ≡ b
    → (has_call (filter keep ws) t pid ≡ true → has_call ws t pid ≡ true) → has_call (filter keep (w ∷ ws)) t pid ≡ true
    → has_call (w ∷ ws) t pid ≡ true
still_step keep w ws t pid true e ih h =
    both ((w.ticket == t) && (w.call.pid.0 == pid.0)) (has_call (filter keep ws) t pid) (has_call ws t pid) ih (rw e at h)
still_step keep w ws t pid false e ih h = or_true ((w.ticket == t) && (w.call.pid.0 == pid.0)) (has_call ws t pid) (ih (rw e at h))

pub still_live : (keep : Ticketed → Bool) (ws : List Ticketed) (t : ℕ) (pid : Pid) → has_call (filter keep ws) t pid ≡ true → has_call ws t pid ≡ true
still_live keep [] t pid h = h
still_live keep (w ∷ ws) t pid h = still_step keep w ws t pid (keep w) refl (still_live keep ws t pid) h

-- the live entries are those of the calls that are left
left_live : (keep : Ticketed → Bool) (test : Case → Bool) (ws : List Ticketed) (items : List Waiter) → Ascending ws
    → live_of ws items ≡ waiters test ws → live_of (filter keep ws) items ≡ waiters test (filter keep ws)
left_live keep test ws items a live =
    sym (filter_within (lives (filter keep ws)) (lives ws) items (λ e h. still_live keep ws e.ticket e.pid h))
    ∙ ap (filter (lives (filter keep ws))) live
    ∙ filter-waiters (has_call (filter keep ws)) test ws
    ∙ ap (waiters test) (live_calls keep ws a)

-- a call that ends leaves a queue that is as before
pub ended_keeps : (test : Case → Bool) (c : Calls) (q : Buffer Waiter) (pid : Pid) → Ascending c.waiting → QueueKeeps test c q
    → QueueKeeps test (without_call pid c) q
ended_keeps test c q pid a k = record {
  live = left_live (λ w. not (w.call.pid.0 == pid.0)) test c.waiting q.items a k.live;
  below = k.below;
  places = k.places;
  fits = k.fits;
}

all_after : {X : Type 0} (P : X → Type 0) (test : X → Bool) (xs : List X) → AllByRecursion P xs → AllByRecursion P (after_first test xs)
all_after P test [] a = tt
all_after P test (x ∷ xs) a = elim (test x) as (λ b. AllByRecursion P (cond b xs (after_first test xs))) [ true ↦ a.1 | false ↦ all_after P test xs a.1 ]

shorter_after : {X : Type 0} (test : X → Bool) (xs : List X) → length (after_first test xs) ≤ length xs
shorter_after test [] = omega arith
shorter_after test (x ∷ xs) = elim (test x) as (λ b. length (cond b xs (after_first test xs)) ≤ suc (length xs)) [
  | true ↦ omega arith
  | false ↦ omega (arith, shorter_after test xs)
]

some_is : {X : Type 0} (y x : X) → Some y ≡ Some x → y ≡ x
some_is y x e = cc

past_step : {X : Type 0} (p q : X → Bool) (x y : X) (xs : List X) (b : Bool) → q y ≡ b → (p y ≡ true → q y ≡ true) → find q (y ∷ xs) ≡ Some x → p x ≡ false
    → (find q xs ≡ Some x → filter p (after_first q xs) ≡ filter p xs)
    → filter p (after_first q (y ∷ xs)) ≡ filter p (y ∷ xs)
past_step p q x y xs true e h f dead ih =
    let same : y ≡ x = some_is y x (rw e at f) in
    rw (e, same, dead) refl
past_step p q x y xs false e h f dead ih = rw (e, false_from_ne_true (p y) (λ t. true≢false (sym (h t) ∙ e))) (ih (rw e at f))

-- what stands up to the first that is live now is dead without it
pub filter-after_first : {X : Type 0} (p q : X → Bool) (x : X) (xs : List X) → ((y : X) → p y ≡ true → q y ≡ true) → find q xs ≡ Some x
    → p x ≡ false → filter p (after_first q xs) ≡ filter p xs
filter-after_first p q x [] h f dead = refl
filter-after_first p q x (y ∷ xs) h f dead = past_step p q x y xs (q y) refl (h y) f dead (λ g. filter-after_first p q x xs h g dead)

none_step : {X : Type 0} (q : X → Bool) (y : X) (xs : List X) (b : Bool) → q y ≡ b → find q (y ∷ xs) ≡ None
    → (find q xs ≡ None → (after_first q xs ≡ []) × (filter q xs ≡ [])) → (after_first q (y ∷ xs) ≡ []) × (filter q (y ∷ xs) ≡ [])
none_step q y xs true e f ih = let impossible : Some y ≡ None = rw e at f in cc
none_step q y xs false e f ih = rw e (ih (rw e at f))

pub none_after : {X : Type 0} (q : X → Bool) (xs : List X) → find q xs ≡ None → (after_first q xs ≡ []) × (filter q xs ≡ [])
none_after q [] f = (refl, refl)
none_after q (y ∷ xs) f = none_step q y xs (q y) refl f (none_after q xs)

-- a queue from which nothing live was taken
pub none_keeps : (test : Case → Bool) (c : Calls) (q : Buffer Waiter) → find (lives c.waiting) q.items ≡ None → QueueKeeps test c q
    → QueueKeeps test c (taken c.waiting q)
none_keeps test c q f k = record {
  live = ap (live_of c.waiting) (none_after (lives c.waiting) q.items f).0 ∙ sym (none_after (lives c.waiting) q.items f).1 ∙ k.live;
  below = all_after (λ entry. entry.ticket < c.next_ticket) (lives c.waiting) q.items k.below;
  places = k.places;
  fits = omega (arith, k.fits, shorter_after (lives c.waiting) q.items);
}

-- a queue from which the first live entry of a call was taken, after that call ended
pub taken_keeps : (test : Case → Bool) (c : Calls) (q : Buffer Waiter) (pid : Pid) (entry : Waiter) → Ascending c.waiting
    → find (lives c.waiting) q.items ≡ Some entry → lives (still_open pid c.waiting) entry ≡ false → QueueKeeps test c q
    → QueueKeeps test (without_call pid c) (taken c.waiting q)
taken_keeps test c q pid entry a f dead k = record {
  live =
      filter-after_first (lives (still_open pid c.waiting)) (lives c.waiting) entry q.items
      (λ e h. still_live (λ w. not (w.call.pid.0 == pid.0)) c.waiting e.ticket e.pid h) f dead
      ∙ left_live (λ w. not (w.call.pid.0 == pid.0)) test c.waiting q.items a k.live;
  below = all_after (λ entry. entry.ticket < c.next_ticket) (lives c.waiting) q.items k.below;
  places = k.places;
  fits = omega (arith, k.fits, shorter_after (lives c.waiting) q.items);
}

from_step : {X : Type 0} (test : X → Bool) (x : X) (xs : List X) (b : Bool) → test x ≡ b → filter test (from_first test xs) ≡ filter test xs
    → filter test (from_first test (x ∷ xs)) ≡ filter test (x ∷ xs)
from_step test x xs true e ih = rw e (rw e refl)
from_step test x xs false e ih = rw e ih

filter-from_first : {X : Type 0} (test : X → Bool) (xs : List X) → filter test (from_first test xs) ≡ filter test xs
filter-from_first test [] = refl
filter-from_first test (x ∷ xs) = from_step test x xs (test x) refl (filter-from_first test xs)

all_from : {X : Type 0} (P : X → Type 0) (test : X → Bool) (xs : List X) → AllByRecursion P xs → AllByRecursion P (from_first test xs)
all_from P test [] a = tt
all_from P test (x ∷ xs) a = elim (test x) as (λ b. AllByRecursion P (cond b (x ∷ xs) (from_first test xs))) [ true ↦ a | false ↦ all_from P test xs a.1 ]

shorter_from : {X : Type 0} (test : X → Bool) (xs : List X) → length (from_first test xs) ≤ length xs
shorter_from test [] = omega arith
shorter_from test (x ∷ xs) = elim (test x) as (λ b. length (cond b (x ∷ xs) (from_first test xs)) ≤ suc (length xs)) [
  | true ↦ omega arith
  | false ↦ omega (arith, shorter_from test xs)
]

-- a queue whose first dead entries were passed
pub passed_keeps : (test : Case → Bool) (c : Calls) (q : Buffer Waiter) → QueueKeeps test c q → QueueKeeps test c (passed c.waiting q)
passed_keeps test c q k = record {
  live = filter-from_first (lives c.waiting) q.items ∙ k.live;
  below = all_from (λ entry. entry.ticket < c.next_ticket) (lives c.waiting) q.items k.below;
  places = k.places;
  fits = omega (arith, k.fits, shorter_from (lives c.waiting) q.items);
}
