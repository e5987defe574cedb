-- The counts of the cases of open calls.
use Rattle.std.proofs.Common.{◌≡◌, ℕ, zero, suc, ◌+◌, ◌-◌, ◌*◌, ◌<◌, ◌≤◌, ◌==◌, ◌||◌, Bool, true, false, not, cond, ltb, List, [], ◌∷◌, ◌++◌, length}
use Rattle.std.proofs.Common.{filter, set, get_or, refl, ap, ◌∙◌, sym, arith, eq-eqb, inl, inr, Option, Some, None, slice_index, replicate}
use Rattle.std.specs.List.{AllByRecursion, list_any}
use Rattle.std.specs.Option.{option_map}
use Rattle.std.specs.Option.{is_some}
use Rattle.std.proofs.lemmas.Bool.{cases_eq, ne_eqb, eqb-true, lt-ltb}
use Rattle.std.proofs.lemmas.Bool.Decides.{nat_tests}
use Rattle.std.proofs.lemmas.List.{length-set, get_or-set_same, get_or-set_other, get_or-replicate, length-replicate}
use Rattle.hub_base.specs.declared.value.Pid.{Pid}
use Rattle.hub_base.specs.declared.value.Port.{Port}
use Rattle.hub_base.specs.declared.case.Case.{Case}
use Rattle.hub_base.specs.declared.case.Case.TheVariants.{Send, Recv}
use Rattle.hub_base.specs.Ready.{is_send_on, is_recv_on, first_with, lowest_from, or_else}
use Rattle.hub_base.specs.declared.limits.TheConstants.{CASE_PLACES, MOST_PORTS}
use Rattle.hub_parts.specs.declared.tickets.case_counts.CaseCounts.{CaseCounts}
use Rattle.hub_parts.specs.declared.side.Side.{Side}
use Rattle.hub_parts.specs.declared.side.Side.TheVariants as side
use Rattle.hub_parts.specs.Records.{Ticketed}
use Rattle.hub_parts.specs.Lists.{open_calls, passes}
use Rattle.hub_parts.specs.CaseCounts.{changed, with_changed, all_changed, CaseAllows, AllAllow, one_more, one_less, with_raised}
use Rattle.hub_parts.specs.CaseCounts.{with_lowered, CanRaise, CanLower, CanGrow, has_case, passing, all_passing, CountsCases, IsCountOf}
use Rattle.hub_parts.specs.declared.tickets.LastCall.{LastCall}
use Rattle.hub_parts.specs.Tickets.{AreApart, calls_of, cases_of}

abbrev iterate : (ℕ → ℕ) → ℕ → ℕ → ℕ
iterate f zero x = x
iterate f (suc k) x = iterate f k (f x)

iterate-more : (k x : ℕ) → iterate one_more k x ≡ x + k
iterate-more zero x = omega arith
iterate-more (suc k) x = omega (arith, iterate-more k (x + 1))

iterate-less : (k x : ℕ) → iterate one_less k x ≡ x - k
iterate-less zero x = omega arith
iterate-less (suc k) x = omega (arith, iterate-less k (x - 1))

length-changed : (f : ℕ → ℕ) (q : Port) (xs : List ℕ) → length (changed f q xs) ≡ length xs
length-changed f q xs = elim (ltb q.0 (length xs)) as (λ b. length (cond b (set xs q.0 (f (get_or xs q.0 0))) xs) ≡ length xs) [
  | true ↦ length-set xs _ _
  | false ↦ refl
]

changed_at : (f : ℕ → ℕ) (q p : Port) (xs : List ℕ) → p.0 < length xs
    → slice_index (changed f q xs) p.0 ≡ cond (q.0 == p.0) (f (slice_index xs p.0)) (slice_index xs p.0)
changed_at f q p xs within =
    elim (cases_eq q.0 p.0) [
      | inl same ↦ rw (same, lt-ltb p.0 (length xs) within, eq-eqb p.0 p.0 refl) (get_or-set_same xs p.0 _ 0 within)
      | inr apart ↦
          rw (ne_eqb q.0 p.0 apart)
          (elim (ltb q.0 (length xs)) as (λ b. get_or (cond b (set xs q.0 (f (get_or xs q.0 0))) xs) p.0 0 ≡ get_or xs p.0 0) [
            | true ↦ get_or-set_other xs q.0 p.0 _ 0 (λ e. apart (sym e))
            | false ↦ refl
          ])
    ]

-- the sends, or the receives, with the test of which cases are counted there
pub record IsHalf (f : ℕ → ℕ) (half : CaseCounts → List ℕ) (test : Port → Case → Bool) : Type 0 where
  pub step : (t : CaseCounts) (c : Case) (p : Port) → p.0 < length (half t)
      → slice_index (half (with_changed f t c)) p.0 ≡ cond (test p c) (f (slice_index (half t) p.0)) (slice_index (half t) p.0)
  pub long : (t : CaseCounts) (c : Case) → length (half (with_changed f t c)) ≡ length (half t)

abbrev sends_of : CaseCounts → List ℕ
sends_of t = t.sends

abbrev recvs_of : CaseCounts → List ℕ
recvs_of t = t.recvs

send_step : (f : ℕ → ℕ) (t : CaseCounts) (c : Case) (p : Port) → p.0 < length t.sends
    → slice_index (sends_of (with_changed f t c)) p.0 ≡ cond (is_send_on p c) (f (slice_index t.sends p.0)) (slice_index t.sends p.0)
send_step f t (Send q v) p within = changed_at f q p t.sends within
send_step f t (Recv q) p within = refl

recv_step : (f : ℕ → ℕ) (t : CaseCounts) (c : Case) (p : Port) → p.0 < length t.recvs
    → slice_index (recvs_of (with_changed f t c)) p.0 ≡ cond (is_recv_on p c) (f (slice_index t.recvs p.0)) (slice_index t.recvs p.0)
recv_step f t (Send q v) p within = refl
recv_step f t (Recv q) p within = changed_at f q p t.recvs within

sends_long : (f : ℕ → ℕ) (t : CaseCounts) (c : Case) → length (sends_of (with_changed f t c)) ≡ length t.sends
sends_long f t (Send q v) = length-changed f q t.sends
sends_long f t (Recv q) = refl

recvs_long : (f : ℕ → ℕ) (t : CaseCounts) (c : Case) → length (recvs_of (with_changed f t c)) ≡ length t.recvs
recvs_long f t (Send q v) = refl
recvs_long f t (Recv q) = length-changed f q t.recvs

sends_half : (f : ℕ → ℕ) → IsHalf f sends_of is_send_on
sends_half f = record { step = send_step f; long = sends_long f }

recvs_half : (f : ℕ → ℕ) → IsHalf f recvs_of is_recv_on
recvs_half f = record { step = recv_step f; long = recvs_long f }

length-all_changed : (f : ℕ → ℕ) (half : CaseCounts → List ℕ) (test : Port → Case → Bool) → IsHalf f half test
    → (t : CaseCounts) (cases : List Case) → length (half (all_changed f t cases)) ≡ length (half t)
length-all_changed f half test h t [] = refl
length-all_changed f half test h t (c ∷ cases) = length-all_changed f half test h (with_changed f t c) cases ∙ h.long t c

-- a count after the cases of a call: changed once for each that passes
all_changed_at : (f : ℕ → ℕ) (half : CaseCounts → List ℕ) (test : Port → Case → Bool) → IsHalf f half test → (t : CaseCounts) (cases : List Case) (p : Port)
    → p.0 < length (half t) → slice_index (half (all_changed f t cases)) p.0 ≡ iterate f (passing (test p) cases) (slice_index (half t) p.0)
all_changed_at f half test h t [] p within = refl
all_changed_at f half test h t (c ∷ cases) p within =
    all_changed_at f half test h (with_changed f t c) cases p (rw (h.long t c) within)
    ∙ rw (h.step t c p within)
    (elim (test p c) as (λ b. iterate f (passing (test p) cases) (cond b (f (slice_index (half t) p.0)) (slice_index (half t) p.0))
    ≡ iterate f (cond b (suc (passing (test p) cases)) (passing (test p) cases)) (slice_index (half t) p.0)) [ true ↦ refl | false ↦ refl ])

-- each count fits the number of cases that are still to come
pub record Enough (R : ℕ → ℕ → Type 0) (t : CaseCounts) (cases : List Case) : Type 0 where
  pub sends : (p : Port) → p.0 < length t.sends → R (passing (is_send_on p) cases) (slice_index t.sends p.0)
  pub recvs : (p : Port) → p.0 < length t.recvs → R (passing (is_recv_on p) cases) (slice_index t.recvs p.0)

enough_less : (R : ℕ → ℕ → Type 0) (f : ℕ → ℕ) (n x : ℕ) (b : Bool) → (R (suc n) x → R n (f x)) → R (cond b (suc n) n) x → R n (cond b (f x) x)
enough_less R f n x true next r = next r
enough_less R f n x false next r = r

case_allows : (R : ℕ → ℕ → Type 0) (P : ℕ → Type 0) → ((n x : ℕ) → R (suc n) x → P x) → (t : CaseCounts) (c : Case) (cases : List Case)
    → Enough R t (c ∷ cases) → CaseAllows P t c
case_allows R P allows t (Send q v) cases e = λ within. allows (passing (is_send_on q) cases) _ (rw (eq-eqb q.0 q.0 refl) at (e.sends q within))
case_allows R P allows t (Recv q) cases e = λ within. allows (passing (is_recv_on q) cases) _ (rw (eq-eqb q.0 q.0 refl) at (e.recvs q within))

all_allow : (f : ℕ → ℕ) (P : ℕ → Type 0) (R : ℕ → ℕ → Type 0) → ((n x : ℕ) → R (suc n) x → P x) → ((n x : ℕ) → R (suc n) x → R n (f x))
    → (t : CaseCounts) (cases : List Case) → Enough R t cases → AllAllow f P t cases
all_allow f P R allows next t [] e = tt
all_allow f P R allows next t (c ∷ cases) e = (
  case_allows R P allows t c cases e,
  all_allow f P R allows next (with_changed f t c) cases (record {
    sends = λ p within.
        let inside : p.0 < length t.sends = rw (sends_long f t c) at within in
        rw (send_step f t c p inside)
        (enough_less R f (passing (is_send_on p) cases) (slice_index t.sends p.0) (is_send_on p c) (next _ _) (e.sends p inside));
    recvs = λ p within.
        let inside : p.0 < length t.recvs = rw (recvs_long f t c) at within in
        rw (recv_step f t c p inside)
        (enough_less R f (passing (is_recv_on p) cases) (slice_index t.recvs p.0) (is_recv_on p c) (next _ _) (e.recvs p inside));
  }),
)

passing-le : (test : Case → Bool) (cases : List Case) → passing test cases ≤ length cases
passing-le test [] = omega arith
passing-le test (c ∷ cases) = elim (test c) as (λ b. cond b (suc (passing test cases)) (passing test cases) ≤ suc (length cases)) [
  | true ↦ omega (arith, passing-le test cases)
  | false ↦ omega (arith, passing-le test cases)
]

all_passing-le : (test : Case → Bool) (ws : List Ticketed) → AllByRecursion (λ w. length w.call.cases ≤ CASE_PLACES) ws
    → all_passing test ws ≤ CASE_PLACES * length ws
all_passing-le test [] a = omega arith
all_passing-le test (w ∷ ws) a =
    let here : length w.call.cases ≤ CASE_PLACES = a.0 in
    omega (arith, passing-le test w.call.cases, all_passing-le test ws a.1)

abbrev Fitting : ℕ → ℕ → Type 0
Fitting n x = x + n < 65536

abbrev Covering : ℕ → ℕ → Type 0
Covering n x = n ≤ x

-- the calls of 255 processes fit
pub can_raise : (t : CaseCounts) (ws : List Ticketed) (cases : List Case) → IsCountOf t ws
    → AllByRecursion (λ w. length w.call.cases ≤ CASE_PLACES) ws → length ws < 256 → length cases ≤ CASE_PLACES → CanRaise t cases
can_raise t ws cases k few most small =
    all_allow one_more CanGrow Fitting (λ n x r. omega arith) (λ n x r. omega arith) t cases (record {
      sends = λ p within. rw (k.sends p (omega (arith, k.sends_length)))
          (omega (arith, all_passing-le (is_send_on p) ws few, passing-le (is_send_on p) cases));
      recvs = λ p within. rw (k.recvs p (omega (arith, k.recvs_length)))
          (omega (arith, all_passing-le (is_recv_on p) ws few, passing-le (is_recv_on p) cases));
    })

all_passing-snoc : (test : Case → Bool) (ws : List Ticketed) (w : Ticketed) → all_passing test (ws ++ w ∷ []) ≡ all_passing test ws + passing test w.call.cases
all_passing-snoc test [] w = omega arith
all_passing-snoc test (v ∷ ws) w = omega (arith, all_passing-snoc test ws w)

raised_counts : (half : CaseCounts → List ℕ) (test : Port → Case → Bool) (t : CaseCounts) (ws : List Ticketed) (w : Ticketed) → IsHalf one_more half test
    → length (half t) ≡ MOST_PORTS + 1 → CountsCases test (half t) ws → CountsCases test (half (with_raised t w.call.cases)) (ws ++ w ∷ [])
raised_counts half test t ws w h long k = λ p within.
    let inside : p.0 < length (half t) = omega (arith, long) in
    all_changed_at one_more half test h t w.call.cases p inside
    ∙ iterate-more (passing (test p) w.call.cases) (slice_index (half t) p.0)
    ∙ ap (λ n. n + passing (test p) w.call.cases) (k p within)
    ∙ sym (all_passing-snoc (test p) ws w)

pub counts_opened : (t : CaseCounts) (ws : List Ticketed) (w : Ticketed) → IsCountOf t ws → IsCountOf (with_raised t w.call.cases) (ws ++ w ∷ [])
counts_opened t ws w k = record {
  sends = raised_counts sends_of is_send_on t ws w (sends_half one_more) k.sends_length k.sends;
  recvs = raised_counts recvs_of is_recv_on t ws w (recvs_half one_more) k.recvs_length k.recvs;
  sends_length = length-all_changed one_more sends_of is_send_on (sends_half one_more) t w.call.cases ∙ k.sends_length;
  recvs_length = length-all_changed one_more recvs_of is_recv_on (recvs_half one_more) t w.call.cases ∙ k.recvs_length;
}

abbrev others : Pid → List ℕ → List ℕ
others pid os = filter (λ o. not (o == pid.0)) os

others_all : (pid : Pid) (os : List ℕ) (q : ℕ) → q ≡ pid.0 → AllByRecursion (λ y. (q == y) ≡ false) os → others pid os ≡ os
others_all pid [] q e a = refl
others_all pid (o ∷ os) q e a =
    let apart : (q == o) ≡ false = a.0 in
    let other : (o == pid.0) ≡ false = grind (arith, nat_tests) in
    rw other (ap (λ rest. o ∷ rest) (others_all pid os q e a.1))

-- without the call of a process there are as many fewer as it has
ended_step : (test : Case → Bool) (places : List LastCall) (pid : Pid) (o : ℕ) (os : List ℕ) (b : Bool)
    → (o == pid.0) ≡ b → AllByRecursion (λ y. (o == y) ≡ false) os → (list_any (λ o. o == pid.0) os ≡ true
    → all_passing test (calls_of places (others pid os)) + passing test (cases_of places pid.0) ≡ all_passing test (calls_of places os))
    → (b || list_any (λ o. o == pid.0) os) ≡ true
    → all_passing test (calls_of places (cond (not b) (o ∷ others pid os) (others pid os))) + passing test (cases_of places pid.0)
    ≡ all_passing test (calls_of places (o ∷ os))
ended_step test places pid o os true e apart ih any =
    let same : o ≡ pid.0 = eqb-true o pid.0 e in
    let here : passing test (cases_of places o) ≡ passing test (cases_of places pid.0) =
    ap (λ (n : ℕ). passing test (get_or places n (record { ticket = 0; cases = record { items = [] } })).cases.items) same in
    rw (others_all pid os o same apart) (omega (arith, here))
ended_step test places pid o os false e apart ih any = omega (arith, ih any)

all_passing-ended : (test : Case → Bool) (places : List LastCall) (pid : Pid) (os : List ℕ)
    → AreApart os → list_any (λ o. o == pid.0) os ≡ true
    → all_passing test (calls_of places (others pid os)) + passing test (cases_of places pid.0) ≡ all_passing test (calls_of places os)
all_passing-ended test places pid [] apart any = cc
all_passing-ended test places pid (o ∷ os) apart any =
    ended_step test places pid o os (o == pid.0) refl apart.0 (all_passing-ended test places pid os apart.1) any

pub can_lower : (t : CaseCounts) (places : List LastCall) (pid : Pid) (os : List ℕ) → IsCountOf t (calls_of places os)
    → AreApart os → list_any (λ o. o == pid.0) os ≡ true → CanLower t (cases_of places pid.0)
can_lower t places pid os k apart any =
    all_allow one_less (λ n. 0 < n) Covering (λ n x r. omega arith) (λ n x r. omega arith) t (cases_of places pid.0) (record {
      sends = λ p within. rw (k.sends p (omega (arith, k.sends_length))) (omega (arith, all_passing-ended (is_send_on p) places pid os apart any));
      recvs = λ p within. rw (k.recvs p (omega (arith, k.recvs_length))) (omega (arith, all_passing-ended (is_recv_on p) places pid os apart any));
    })

lowered_counts : (half : CaseCounts → List ℕ) (test : Port → Case → Bool) (t : CaseCounts) (places : List LastCall) (pid : Pid) (os : List ℕ)
    → IsHalf one_less half test → length (half t) ≡ MOST_PORTS + 1 → AreApart os → list_any (λ o. o == pid.0) os ≡ true
    → CountsCases test (half t) (calls_of places os) → CountsCases test (half (with_lowered t (cases_of places pid.0))) (calls_of places (others pid os))
lowered_counts half test t places pid os h long apart any k = λ p within.
    let inside : p.0 < length (half t) = omega (arith, long) in
    all_changed_at one_less half test h t (cases_of places pid.0) p inside
    ∙ iterate-less (passing (test p) (cases_of places pid.0)) (slice_index (half t) p.0)
    ∙ ap (λ n. n - passing (test p) (cases_of places pid.0)) (k p within)
    ∙ omega (arith, all_passing-ended (test p) places pid os apart any)

pub counts_ended : (t : CaseCounts) (places : List LastCall) (pid : Pid) (os : List ℕ)
    → AreApart os → list_any (λ o. o == pid.0) os ≡ true → IsCountOf t (calls_of places os)
    → IsCountOf (with_lowered t (cases_of places pid.0)) (calls_of places (others pid os))
counts_ended t places pid os apart any k = record {
  sends = lowered_counts sends_of is_send_on t places pid os (sends_half one_less) k.sends_length apart any k.sends;
  recvs = lowered_counts recvs_of is_recv_on t places pid os (recvs_half one_less) k.recvs_length apart any k.recvs;
  sends_length = length-all_changed one_less sends_of is_send_on (sends_half one_less) t (cases_of places pid.0) ∙ k.sends_length;
  recvs_length = length-all_changed one_less recvs_of is_recv_on (recvs_half one_less) t (cases_of places pid.0) ∙ k.recvs_length;
}

suc_is_some : (n : ℕ) → not (suc n == 0) ≡ true
suc_is_some n = rw (ne_eqb (suc n) 0 (λ e. omega arith)) refl

some_lowest : (test : Case → Bool) (i : ℕ) (cases : List Case) → is_some (lowest_from i test cases) ≡ not (passing test cases == 0)
some_lowest test i [] = refl
some_lowest test i (c ∷ cases) = elim (test c) as (λ b. is_some (cond b (Some (record { index = i; case = c })) (lowest_from (i + 1) test cases))
    ≡ not (cond b (suc (passing test cases)) (passing test cases) == 0)) [
      | true ↦ sym (suc_is_some (passing test cases))
      | false ↦ some_lowest test (i + 1) cases
    ]

some_of_two : (m n : ℕ) → (not (m == 0) || not (n == 0)) ≡ not ((m + n) == 0)
some_of_two m n = grind (arith, nat_tests)

is_some-or_else : {A B : Type 0} (f : A → B) (x : Option A) (y : Option B) → is_some (or_else (option_map f x) y) ≡ (is_some x || is_some y)
is_some-or_else f None y = refl
is_some-or_else f (Some x) y = refl

-- some call waits where some case is counted
pub some_waits : (test : Case → Bool) (ws : List Ticketed) → not (all_passing test ws == 0) ≡ is_some (first_with test (open_calls ws))
some_waits test [] = refl
some_waits test (w ∷ ws) =
    sym (some_of_two (passing test w.call.cases) (all_passing test ws))
    ∙ ap (λ b. b || not (all_passing test ws == 0)) (sym (some_lowest test 0 w.call.cases))
    ∙ ap (λ b. is_some (lowest_from 0 test w.call.cases) || b) (some_waits test ws)
    ∙ sym (is_some-or_else _ (lowest_from 0 test w.call.cases) (first_with test (open_calls ws)))

pub counts_tell : (s : Side) (p : Port) (t : CaseCounts) (ws : List Ticketed) → IsCountOf t ws → p.0 ≤ MOST_PORTS
    → has_case t p s ≡ is_some (first_with (passes p s) (open_calls ws))
counts_tell side.Send p t ws k within = rw (k.sends p within) (some_waits (is_send_on p) ws)
counts_tell side.Recv p t ws k within = rw (k.recvs p within) (some_waits (is_recv_on p) ws)

pub no_counts : (t : CaseCounts) → t.sends ≡ replicate (MOST_PORTS + 1) 0 → t.recvs ≡ replicate (MOST_PORTS + 1) 0 → IsCountOf t []
no_counts t s r = record {
  sends = λ p within. rw s (get_or-replicate (MOST_PORTS + 1) p.0 0 0 (omega arith));
  recvs = λ p within. rw r (get_or-replicate (MOST_PORTS + 1) p.0 0 0 (omega arith));
  sends_length = rw s (length-replicate {A = ℕ} (MOST_PORTS + 1) 0);
  recvs_length = rw r (length-replicate {A = ℕ} (MOST_PORTS + 1) 0);
}
