-- How many processes have exited, and how many have an open call.
use Rattle.std.proofs.Common.{◌≡◌, ℕ, zero, suc, ◌+◌, ◌==◌, ◌≤◌, ◌<◌, ◌||◌, ◌&&◌, not, Bool, true, false, count_by}
use Rattle.std.proofs.Common.{List, [], ◌∷◌, length, refl, ap, ◌∙◌, sym, subst, None, arith}
use Rattle.std.specs.Prelude.{slice_set, replicate}
use Rattle.std.specs.List.{list_all, range_with_len}
use Rattle.std.proofs.lemmas.Bool.{eqb-true}
use Rattle.std.proofs.lemmas.Grind.{common_steps}
use Rattle.std.proofs.lemmas.List.FromFn.{length-range_with_len}
use Rattle.std.proofs.lemmas.List.Sums.{sum_by-cons, count_by-le-length}
use Rattle.hub_base.specs.declared.value.Pid.{Pid}
use Rattle.hub_laws.specs.Sound.{Apart}
use Rattle.hub_parts.specs.Records.{Lists, Ticketed}
use Rattle.hub_parts.specs.Lists.{open_calls}
use Rattle.hub_core.specs.ListSteps.{gone_on, open_on, count_gone, ArePresent, all_wait_on, refusal_of}
use Rattle.hub_core.proofs.Effects.{gone-more, gone-fewer, gone-within}
use Rattle.hub_core.proofs.Stalls.{open_on-calls}
use Rattle.hub_core.proofs.Following.{none-gone}

-- ---- the numbers that pass a test
-- those that pass one of two tests, where none passes both
count-or : (either f g : ℕ → Bool) (xs : List ℕ) → ((q : ℕ) → either q ≡ (f q || g q)) → ((q : ℕ) → g q ≡ true → f q ≡ false)
    → count_by either xs ≡ count_by f xs + count_by g xs
count-or either f g [] is apart = refl
count-or either f g (x ∷ xs) is apart = grind (arith, common_steps, sum_by-cons, is x, apart x, count-or either f g xs is apart)

count-none : (f : ℕ → Bool) (xs : List ℕ) → ((q : ℕ) → f q ≡ false) → count_by f xs ≡ 0
count-none f [] none = refl
count-none f (x ∷ xs) none = grind (arith, common_steps, sum_by-cons, none x, count-none f xs none)

count-all : (f : ℕ → Bool) (xs : List ℕ) → list_all f xs ≡ (count_by f xs == length xs)
count-all f [] = refl
count-all f (x ∷ xs) = grind (arith, common_steps, sum_by-cons, count-all f xs, count_by-le-length f xs)

-- one number, which is not among those above it
count-above : (p a n : ℕ) → p < a → count_by (λ q. p == q) (range_with_len a n) ≡ 0
count-above p a zero h = refl
count-above p a (suc n) h = grind (arith, common_steps, sum_by-cons, count-above p (a + 1) n (omega arith))

count-one : (p a n : ℕ) → a ≤ p → p < a + n → count_by (λ q. p == q) (range_with_len a n) ≡ 1
count-one p a zero low h = absurd (omega arith)
count-one p a (suc n) low h = grind (arith, common_steps, sum_by-cons, count-above p (a + 1) n, count-one p (a + 1) n)

-- ---- the processes that have exited
pub count-le-procs : (gone : List Bool) (procs : ℕ) → count_gone gone procs ≤ procs
count-le-procs gone procs = omega (arith, count_by-le-length (gone_on gone) (range_with_len 0 procs), length-range_with_len 0 procs)

pub count-none_gone : (k procs : ℕ) → 0 ≡ count_gone (replicate k false) procs
count-none_gone k procs = sym (count-none (gone_on (replicate k false)) (range_with_len 0 procs) (none-gone k))

-- one that is admitted exits
pub count-exit : (b : Lists) (gone : List Bool) (pid : Pid) (count procs : ℕ) → b.procs ≡ procs → count ≡ count_gone gone procs → procs ≤ length gone
    → refusal_of b gone pid ≡ None → count + 1 ≡ count_gone (slice_set gone pid.0 true) procs
count-exit b gone pid count procs same is room h =
    let may : (pid.0 < b.procs) × (gone_on gone pid.0 ≡ false) = grind arith in
    let more = count-or (gone_on (slice_set gone pid.0 true)) (gone_on gone) (λ q. pid.0 == q) (range_with_len 0 procs)
    (λ q. gone-more gone pid.0 q (pid.0 == q) (omega arith) refl) (λ q e. subst (λ n. gone_on gone n ≡ false) (eqb-true pid.0 q e) may.1) in
    omega (arith, more, count-one pid.0 0 procs (omega arith) (omega arith))

-- one that had exited is started
pub count-start : (gone : List Bool) (q count procs : ℕ) → count ≡ count_gone gone procs → gone_on gone q ≡ true → q < procs
    → count_gone (slice_set gone q false) procs + 1 ≡ count
count-start gone q count procs is some below =
    let room = gone-within gone q some in
    let more = count-or (gone_on gone) (gone_on (slice_set gone q false)) (λ r. q == r) (range_with_len 0 procs)
    (λ r. split (gone_on gone r) (gone_on (slice_set gone q false) r) (q == r) (gone-fewer gone q r (q == r) room refl)
    (λ e. subst (λ n. gone_on gone n ≡ true) (eqb-true q r e) some))
    (λ r e. gone-fewer gone q r (q == r) room refl ∙ rw e (none (gone_on gone r))) in
    omega (arith, more, is, count-one q 0 procs (omega arith) (omega (arith, below)))
  where
    split : (a b c : Bool) → b ≡ (a && not c) → (c ≡ true → a ≡ true) → a ≡ (b || c)
    split true b true is h = rw is refl
    split true b false is h = rw is refl
    split false b true is h = let g : false ≡ true = h refl in cc
    split false b false is h = rw is refl

    none : (a : Bool) → (a && not true) ≡ false
    none true = refl
    none false = refl

-- ---- the processes that have an open call
count-open : (ws : List Ticketed) (procs : ℕ) → Apart (open_calls ws) → ((q : ℕ) → open_on ws q ≡ true → q < procs)
    → count_by (open_on ws) (range_with_len 0 procs) ≡ length ws
count-open [] procs apart below = count-none (open_on []) (range_with_len 0 procs) (λ q. refl)
count-open (w ∷ ws) procs apart below =
    let pid : ℕ = w.call.pid.0 in
    let more = count-or (open_on (w ∷ ws)) (λ q. pid == q) (open_on ws) (range_with_len 0 procs) (λ q. refl)
    (λ q e. grind (arith, common_steps, open_on-calls pid ws, apart.0, eqb-true pid q)) in
    let here : pid < procs = below pid (grind (arith, common_steps)) in
    let first = count-one pid 0 procs (omega arith) (omega arith) in
    omega (arith, more, first, count-open ws procs apart.1 (λ q e. below q (grind (arith, common_steps))))

-- all wait where both are as many as there are processes
pub all_wait-counts : (b : Lists) (gone : List Bool) (count procs : ℕ) → b.procs ≡ procs → count ≡ count_gone gone procs → Apart (open_calls b.waiting)
    → ArePresent b.waiting gone procs → all_wait_on b gone ≡ (not (length b.waiting == 0) && (length b.waiting + count == procs))
all_wait-counts b gone count procs same is apart present =
    let numbers = range_with_len 0 procs in
    let either : ℕ → Bool = λ q. gone_on gone q || open_on b.waiting q in
    let both = count-or either (gone_on gone) (open_on b.waiting) numbers (λ q. refl) (λ q e. (present q e).1) in
    let calls = count-open b.waiting procs apart (λ q e. (present q e).0) in
    let each : list_all either numbers ≡ (length b.waiting + count == procs) =
    count-all either numbers ∙ grind (arith, common_steps, length-range_with_len 0 procs) in
    rw same (ap (λ x. not (length b.waiting == 0) && x) each)
