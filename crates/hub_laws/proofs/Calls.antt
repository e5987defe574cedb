-- Lists of open calls: what stays when some of them end, and when one more parks.
use Rattle.hub_laws.proofs.Prelude.{◌≡◌, Bool, true, false, List, [], ◌∷◌, ◌++◌, refl, ◌∙◌, Option, Some, None, ℕ, ◌==◌, suc, ◌+◌, cond, arith, filter, ◌||◌}
use Rattle.hub_laws.proofs.Prelude.{or-false, or_parts, or_from, false_from_ne_true, list_any-append, list_any, AllByRecursion, option_map, slice_get, is_some}
use Rattle.hub_laws.proofs.Prelude.{Case, Port, is_recv_on, first_with, is_send_on, Placed, Ending, or_else, lowest, lowest_from, OpenCall, Apart, is_among}
use Rattle.hub_laws.proofs.Prelude.{some_call, Alone, CallFits, Edition}

-- Numbers of processes

pub same_number : (a : ℕ) → (a == a) ≡ true
same_number a = grind arith

pub differ-sym : (a b : ℕ) → (a == b) ≡ false → (b == a) ≡ false
differ-sym a b e = grind arith

-- What stays when some of the calls end

pub record Fewer (kept calls : List OpenCall) : Type 0 where
  pub some : (test : Case → Bool) → some_call test kept ≡ true → some_call test calls ≡ true
  pub among : (q : ℕ) → is_among q kept ≡ true → is_among q calls ≡ true
  pub apart : Apart calls → Apart kept
  pub alone : (p : Port) → Alone p calls → Alone p kept
  pub each : (edition : Edition) (n : ℕ) → AllByRecursion (CallFits edition n) calls → AllByRecursion (CallFits edition n) kept

pub fewer-none : (calls : List OpenCall) → Fewer [] calls
fewer-none calls = record { some = λ test e. cc; among = λ q e. cc; apart = λ a. tt; alone = λ p a. tt; each = λ e n a. tt }

any_kept : {A : Type 0} (test keep : A → Bool) (xs : List A) → list_any test (filter keep xs) ≡ true → list_any test xs ≡ true
any_kept test keep [] e = e
any_kept test keep (x ∷ xs) e = grind (arith, any_kept test keep xs)

pub none_kept : {A : Type 0} (test keep : A → Bool) (xs : List A) → list_any test xs ≡ false → list_any test (filter keep xs) ≡ false
none_kept test keep xs e = false_from_ne_true (list_any test (filter keep xs)) (λ h. let t = any_kept test keep xs h in cc)

apart_kept : (keep : OpenCall → Bool) (calls : List OpenCall) → Apart calls → Apart (filter keep calls)
apart_kept keep [] a = tt
apart_kept keep (call ∷ calls) a = grind (arith, none_kept, apart_kept keep calls a.1)

alone_kept : (p : Port) (keep : OpenCall → Bool) (calls : List OpenCall) → Alone p calls → Alone p (filter keep calls)
alone_kept p keep [] a = tt
alone_kept p keep (call ∷ calls) a = grind (arith, none_kept, alone_kept p keep calls a.2)

pub all_kept : {A : Type 0} (P : A → Type 0) (keep : A → Bool) (xs : List A) → AllByRecursion P xs → AllByRecursion P (filter keep xs)
all_kept P keep [] a = tt
all_kept P keep (x ∷ xs) a = grind (arith, all_kept P keep xs a.1)

pub fewer-filter : (keep : OpenCall → Bool) (calls : List OpenCall) → Fewer (filter keep calls) calls
fewer-filter keep calls = grind (arith, any_kept, apart_kept, alone_kept, all_kept)

-- One more call

pub any_snoc : {A : Type 0} (test : A → Bool) (xs : List A) (x : A) → list_any test (xs ++ x ∷ []) ≡ (list_any test xs || test x)
any_snoc test xs x = simp (list_any-append, or-false)

pub apart_snoc : (calls : List OpenCall) (call : OpenCall) → Apart calls → is_among call.pid.0 calls ≡ false → Apart (calls ++ call ∷ [])
apart_snoc [] call a free = (refl, tt)
apart_snoc (c ∷ cs) call a free =
    let f = or_parts (c.pid.0 == call.pid.0) (is_among call.pid.0 cs) free in (
      any_snoc (λ x. x.pid.0 == c.pid.0) cs call ∙ or_from (is_among c.pid.0 cs) (call.pid.0 == c.pid.0) a.0 (differ-sym c.pid.0 call.pid.0 f.0),
      apart_snoc cs call a.1 f.1,
    )

pub alone_snoc : (p : Port) (calls : List OpenCall) (call : OpenCall) → Alone p calls →
    (list_any (is_recv_on p) call.cases ≡ true → some_call (is_send_on p) calls ≡ false) →
    (list_any (is_send_on p) call.cases ≡ true → some_call (is_recv_on p) calls ≡ false) → Alone p (calls ++ call ∷ [])
alone_snoc p [] call a r w = (λ e. refl, λ e. refl, tt)
alone_snoc p (c ∷ cs) call a r w =
    grind (arith, any_snoc, alone_snoc p cs call a.2 (λ t. (or_parts (list_any (is_send_on p) c.cases) (some_call (is_send_on p) cs) (r t)).1))

-- The first call with a case that passes

pub lowest-some : (i : ℕ) (test : Case → Bool) (cases : List Case) → is_some (lowest_from i test cases) ≡ list_any test cases
lowest-some i test [] = refl
lowest-some i test (c ∷ cs) = grind (arith, lowest-some (i + 1) test cs)

pub first-some : (test : Case → Bool) (calls : List OpenCall) → is_some (first_with test calls) ≡ some_call test calls
first-some test [] = refl
first-some test (call ∷ calls) = grind (arith, lowest-some 0 test call.cases, first-some test calls)

-- where a case stands in a list that is numbered from `i`
abbrev pub StandsAt : ℕ → List Case → Placed → Type 0
StandsAt i cases at = (k : ℕ) × (at.index ≡ i + k) × (slice_get cases k ≡ Some at.case)

placed : (b : Bool) (i : ℕ) (test : Case → Bool) (c : Case) (cs : List Case) (at : Placed) → b ≡ test c
    → cond b (Some (record { index = i; case = c })) (lowest_from (i + 1) test cs) ≡ Some at
    → (lowest_from (i + 1) test cs ≡ Some at → (test at.case ≡ true) × StandsAt (i + 1) cs at) → (test at.case ≡ true) × StandsAt i (c ∷ cs) at
placed true i test c cs at is e rest = grind arith
placed false i test c cs at is e rest = let r = rest e in (r.0, (suc r.1.0, omega (arith, r.1.1), r.1.2))

pub lowest-at : (i : ℕ) (test : Case → Bool) (cases : List Case) (at : Placed) → lowest_from i test cases ≡ Some at
    → (test at.case ≡ true) × StandsAt i cases at
lowest-at i test [] at e = cc
lowest-at i test (c ∷ cs) at e = placed (test c) i test c cs at refl e (lowest-at (i + 1) test cs at)

-- the call that ends, with what is known of each
pub record Found (P : OpenCall → Type 0) (test : Case → Bool) (calls : List OpenCall) (e : Ending) : Type 0 where
  pub call : OpenCall
  pub known : P call
  pub pid : call.pid ≡ e.pid
  pub passes : test e.at.case ≡ true
  pub stands : slice_get call.cases e.at.index ≡ Some e.at.case
  pub among : is_among e.pid.0 calls ≡ true

found_here : (P : OpenCall → Type 0) (test : Case → Bool) (call : OpenCall) (calls : List OpenCall) (e : Ending) (o : Option Placed)
    → o ≡ lowest test call.cases → or_else (option_map (λ c. record { pid = call.pid; at = c }) o) (first_with test calls) ≡ Some e → P call
    → (first_with test calls ≡ Some e → Found P test calls e) → Found P test (call ∷ calls) e
found_here P test call calls e None is h known rest = grind arith
found_here P test call calls e (Some at) is h known rest = grind (arith, lowest-at)

pub first-found : (P : OpenCall → Type 0) (test : Case → Bool) (calls : List OpenCall) (e : Ending) → AllByRecursion P calls
    → first_with test calls ≡ Some e → Found P test calls e
first-found P test [] e all h = cc
first-found P test (call ∷ calls) e all h = found_here P test call calls e (lowest test call.cases) refl h all.0 (first-found P test calls e all.1)
