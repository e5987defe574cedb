-- A journal holds at most one exit of each process, and one more for each start of it.
use Rattle.hub_laws.proofs.Prelude.{◌≡◌, Bool, true, false, List, [], ◌∷◌, refl, ap, ◌∙◌, sym, ℕ, ◌+◌, ◌≤◌, cond, length, arith, ◌||◌, ◌<◌, common_steps}
use Rattle.hub_laws.proofs.Prelude.{length-map, AllByRecursion, Entry, Head, Pid, admits, state_after, state, kept_after, keeps, State}
use Rattle.hub_laws.proofs.Prelude.{OpenCall, opening, turn, has_gone, one_step, steps_of, exits_of, LimitsLaw, Apart, is_start_of, starts_of}
use Rattle.hub_laws.proofs.Prelude.{is_start, all_starts, is_exit, is_among, AreOf, has_lives, is_of, Step, Edition}
use Rattle.hub_laws.proofs.Prelude.{Exit, Start, Make, Call, Close, Cancel, Reopen, filter, not, list_any, ◌&&◌, ◌==◌, ◌++◌, if◌then◌else◌, and_parts}
use Rattle.hub_laws.proofs.Prelude.{eqb-true, or_cases, inl, inr, subst, length-append}
use Rattle.std.proofs.Common.{◌*◌}
use Rattle.std.specs.List.{list_all}
use Rattle.hub_laws.specs.Journals.{IsLegal}
use Rattle.hub_laws.proofs.Ready.{Admitted, admitted, by-refusal}
use Rattle.hub_laws.proofs.Leaving.{one}
use Rattle.hub_laws.proofs.Distinct.{calls_by, among-calls_by, count-below}
use Rattle.hub_laws.proofs.Account.{with_leaver, procs-of}
use Rattle.hub_laws.proofs.Entries.{turn-account, started_none}
use Rattle.hub_laws.proofs.Lasting.{turn-leaves, head-after}
use Rattle.hub_laws.proofs.Calls.{apart_snoc, none_kept}

-- Once

-- who has exited does not exit again before it is started
once_by : (x g b : Bool) (e : Entry) (es fs : List Entry) → (x ≡ true → g ≡ false) →
    length es + one ((g && not b) || x) ≤ 1 + length fs →
    length (cond x (e ∷ es) es) + one g ≤ 1 + length (cond b (e ∷ fs) fs)
once_by true true b e es fs free most = let g : true ≡ false = free refl in cc
once_by true false true e es fs free most = omega (arith, most)
once_by true false false e es fs free most = omega (arith, most)
once_by false true true e es fs free most = omega (arith, most)
once_by false true false e es fs free most = omega (arith, most)
once_by false false true e es fs free most = omega (arith, most)
once_by false false false e es fs free most = omega (arith, most)

once_after : (q : ℕ) (s : State) (es : List Entry) →
    length (exits_of q (kept_after s es)) + one (has_gone s q) ≤ 1 + length (starts_of q (kept_after s es))
once_after q s [] = grind arith
once_after q s (e ∷ es) =
    by-refusal (λ o. length (exits_of q (keeps o e (kept_after (admits s e o).state es))) + one (has_gone s q)
    ≤ 1 + length (starts_of q (keeps o e (kept_after (admits s e o).state es)))) s e.pid
    (λ is.
    let kept : List Entry = kept_after (turn s e).state es in
    once_by (is_exit e.step && (e.pid.0 == q)) (has_gone s q) (is_start_of q e.step) e (exits_of q kept) (starts_of q kept)
    (exits_here q s e (admitted s e.pid is))
    (subst (λ (b : Bool). length (exits_of q kept) + one b ≤ 1 + length (starts_of q kept)) (turn-leaves q s e) (once_after q (turn s e).state es)))
    (λ f is. once_after q s es)
  where
    exits_here : (q : ℕ) (s : State) (e : Entry) → Admitted s e.pid → (is_exit e.step && (e.pid.0 == q)) ≡ true → has_gone s q ≡ false
    exits_here q s e adm h =
        let both = and_parts (is_exit e.step) (e.pid.0 == q) h in
        subst (λ (n : ℕ). has_gone s n ≡ false) (eqb-true e.pid.0 q both.1) adm.here

-- Below

below_after : (n : ℕ) (s : State) (es : List Entry) → s.head.procs ≡ n → AllByRecursion (λ e. e.pid.0 < n) (kept_after s es)
below_after n s [] procs = tt
below_after n s (e ∷ es) procs = grind (arith, below_after n (turn s e).state es (procs-of (turn-account s e).head ∙ procs), below_after n s es procs)

-- Length

-- no process has exited twice, and none that there is not
pub record GoneSound (s : State) : Type 0 where
  pub apart : Apart (calls_by s.gone)
  pub below : (q : ℕ) → has_gone s q ≡ true → q < s.head.procs

-- who is left of these is apart from one another still
apart_but : (r : ℕ) (gone : List Pid) → Apart (calls_by gone) → Apart (calls_by (filter (λ g. not (g.0 == r)) gone))
apart_but r [] a = tt
apart_but r (g ∷ gs) a = by (g.0 == r) (apart_but r gs a.1)
  where
    none : list_any (λ x. x.0 == g.0) (filter (λ x. not (x.0 == r)) gs) ≡ false
    none = none_kept (λ (x : Pid). x.0 == g.0) (λ (x : Pid). not (x.0 == r)) gs (sym (among-calls_by g.0 gs) ∙ a.0)

    by : (b : Bool) → Apart (calls_by (filter (λ x. not (x.0 == r)) gs)) →
        Apart (calls_by (cond (not b) (g ∷ filter (λ x. not (x.0 == r)) gs) (filter (λ x. not (x.0 == r)) gs)))
    by true rest = rest
    by false rest = (among-calls_by g.0 (filter (λ x. not (x.0 == r)) gs) ∙ none, rest)

calls_snoc : (gone : List Pid) (pid : Pid) → calls_by (gone ++ pid ∷ []) ≡ calls_by gone ++ record { pid = pid; cases = [] } ∷ []
calls_snoc [] pid = refl
calls_snoc (g ∷ gs) pid = ap (λ xs. record { pid = g; cases = [] } ∷ xs) (calls_snoc gs pid)

gone_kept : (s : State) (e : Entry) → GoneSound s → Admitted s e.pid → Apart (calls_by (with_leaver s.gone e.pid e.step))
gone_kept s e sound adm = by e.step
  where
    here : is_among e.pid.0 (calls_by s.gone) ≡ false
    here = among-calls_by e.pid.0 s.gone ∙ adm.here

    leaves : Apart (calls_by (s.gone ++ e.pid ∷ []))
    leaves = rw (calls_snoc s.gone e.pid) (apart_snoc (calls_by s.gone) (record { pid = e.pid; cases = [] }) sound.apart here)

    by : (step : Step) → Apart (calls_by (with_leaver s.gone e.pid step))
    by Exit = leaves
    by (Start r) = apart_but r.0 s.gone sound.apart
    by (Make cap) = sound.apart
    by (Call cases default word) = sound.apart
    by (Close p) = sound.apart
    by (Cancel r) = sound.apart
    by (Reopen p cap) = sound.apart

gone_turn : (s : State) (e : Entry) → GoneSound s → Admitted s e.pid → GoneSound (turn s e).state
gone_turn s e sound adm = record {
  apart = subst (λ (g : List Pid). Apart (calls_by g)) (sym (turn-account s e).gone) (gone_kept s e sound adm);
  below = λ q h. omega (arith, below q (sym (turn-leaves q s e) ∙ h), procs-of (turn-account s e).head);
}
  where
    below : (q : ℕ) → ((has_gone s q && not (is_start_of q e.step)) || (is_exit e.step && (e.pid.0 == q))) ≡ true → q < s.head.procs
    below q h = elim (or_cases (has_gone s q && not (is_start_of q e.step)) (is_exit e.step && (e.pid.0 == q)) h) [
      | inl l ↦ sound.below q (and_parts (has_gone s q) (not (is_start_of q e.step)) l).0
      | inr r ↦ subst (λ (n : ℕ). n < s.head.procs) (eqb-true e.pid.0 q (and_parts (is_exit e.step) (e.pid.0 == q) r).1) adm.below
    ]

gone_after : (s : State) (es : List Entry) → GoneSound s → GoneSound (state_after s es)
gone_after s [] sound = sound
gone_after s (e ∷ es) sound =
    by-refusal (λ o. GoneSound (state_after (admits s e o).state es)) s e.pid
    (λ is. gone_after (turn s e).state es (gone_turn s e sound (admitted s e.pid is))) (λ f is. gone_after s es sound)

-- a start takes one at most from those that have exited
started_length : (r : ℕ) (gone : List Pid) → Apart (calls_by gone) → length gone ≤ length (filter (λ g. not (g.0 == r)) gone) + 1
started_length r [] a = omega arith
started_length r (g ∷ gs) a = by (g.0 == r) refl (started_length r gs a.1)
  where
    by : (b : Bool) → b ≡ (g.0 == r) → length gs ≤ length (filter (λ g. not (g.0 == r)) gs) + 1 →
        length (g ∷ gs) ≤ length (cond (not b) (g ∷ filter (λ g. not (g.0 == r)) gs) (filter (λ g. not (g.0 == r)) gs)) + 1
    by true is rest =
        let same : g.0 ≡ r = eqb-true g.0 r (sym is) in
        let none : list_any (λ (x : Pid). x.0 == g.0) gs ≡ false = sym (among-calls_by g.0 gs) ∙ a.0 in
        let kept : filter (λ (x : Pid). not (x.0 == r)) gs ≡ gs = started_none (record { 0 = r }) gs (rw same at none) in
        omega (arith, ap length kept)
    by false is rest = omega (arith, rest)

one_entry : (gone : List Pid) (e : Entry) → Apart (calls_by gone) →
    1 + length gone ≤ one_step e + length (with_leaver gone e.pid e.step) + one (is_start e.step)
one_entry gone e apart = by e.step
  where
    by : (step : Step) → 1 + length gone ≤ (if is_exit step then 0 else 1) + length (with_leaver gone e.pid step) + one (is_start step)
    by Exit = omega (arith, length-append gone (e.pid ∷ []))
    by (Start r) = omega (arith, started_length r.0 gone apart)
    by (Make cap) = omega arith
    by (Call cases default word) = omega arith
    by (Close p) = omega arith
    by (Cancel r) = omega arith
    by (Reopen p cap) = omega arith

starts_cons : (e : Entry) (es : List Entry) → length (all_starts (e ∷ es)) ≡ one (is_start e.step) + length (all_starts es)
starts_cons e es = grind (arith, common_steps)

length_after : (s : State) (es : List Entry) → GoneSound s →
    length (kept_after s es) + length s.gone
    ≤ steps_of (kept_after s es) + length (state_after s es).gone + length (all_starts (kept_after s es))
length_after s [] sound = omega arith
length_after s (e ∷ es) sound =
    by-refusal (λ o. let kept : List Entry = keeps o e (kept_after (admits s e o).state es) in
    length kept + length s.gone ≤ steps_of kept + length (state_after (admits s e o).state es).gone + length (all_starts kept)) s e.pid (λ is.
    omega (
      arith,
      length_after (turn s e).state es (gone_turn s e sound (admitted s e.pid is)),
      one_entry s.gone e sound.apart,
      ap length (turn-account s e).gone,
      starts_cons e (kept_after (turn s e).state es),
    )) (λ f is. length_after s es sound)

gone_opening : (head : Head) → GoneSound (opening head)
gone_opening head = record { apart = tt; below = λ q e. absurd (let g : ⊥ = cc in g) }

-- who has exited is a process that there is
pub gone-below : (head : Head) (es : List Entry) (q : ℕ) → has_gone (state head es) q ≡ true → q < head.procs
gone-below head es q e = omega (arith, (gone_after (opening head) es (gone_opening head)).below q e, procs-of (head-after (opening head) es))

-- no more processes have exited than there are
pub gone-law : (head : Head) (es : List Entry) → length (state head es).gone ≤ head.procs
gone-law head es =
    let sound = gone_after (opening head) es (gone_opening head) in
    let gone : List Pid = (state head es).gone in
    let most = count-below head.procs (calls_by gone) sound.apart (λ q e.
    omega (arith, sound.below q (sym (among-calls_by q gone) ∙ e), procs-of (head-after (opening head) es))) in
    omega (arith, most, length-map {B = OpenCall} gone (λ pid. record { pid = pid; cases = [] }))

-- in an edition without starts there is none

no_start : (edition : Edition) (step : Step) → has_lives edition ≡ false → is_of edition step ≡ true → is_start step ≡ false
no_start edition (Start q) old h = cc
no_start edition (Make cap) old h = refl
no_start edition (Call cases default word) old h = refl
no_start edition (Close p) old h = refl
no_start edition Exit old h = refl
no_start edition (Cancel q) old h = refl
no_start edition (Reopen p cap) old h = refl

starts_none : (edition : Edition) (s : State) (es : List Entry) → has_lives edition ≡ false → AreOf edition es → all_starts (kept_after s es) ≡ []
starts_none edition s [] old of_edition = refl
starts_none edition s (e ∷ es) old of_edition =
    let both = and_parts (is_of edition e.step) (list_all (λ x. is_of edition x.step) es) of_edition in
    by-refusal (λ o. all_starts (keeps o e (kept_after (admits s e o).state es)) ≡ []) s e.pid
    (λ is. rw (no_start edition e.step old both.0) (starts_none edition (turn s e).state es old both.1))
    (λ f is. starts_none edition s es old both.1)

pub limits-law : (head : Head) (es : List Entry) → LimitsLaw head es
limits-law head es = record {
  once = λ q. omega (arith, once_after q (opening head) es);
  below = below_after head.procs (opening head) es refl;
  length = omega (arith, length_after (opening head) es (gone_opening head), gone-law head es);
  none = λ old of_edition. starts_none head.edition (opening head) es old of_edition;
}

-- starts are steps
pub starts-few : (es : List Entry) → length (all_starts es) ≤ steps_of es
starts-few [] = omega arith
starts-few (e ∷ es) = by e.step (starts-few es)
  where
    by : (step : Step) → length (all_starts es) ≤ steps_of es →
        length (all_starts (record { pid = e.pid; step = step } ∷ es)) ≤ steps_of (record { pid = e.pid; step = step } ∷ es)
    by (Make cap) h = omega (arith, h)
    by (Call cases default word) h = omega (arith, h)
    by (Close p) h = omega (arith, h)
    by Exit h = omega (arith, h)
    by (Cancel q) h = omega (arith, h)
    by (Start q) h = omega (arith, h)
    by (Reopen p cap) h = omega (arith, h)

-- a legal journal is not longer than its steps, its starts and its processes
pub legal-short : (head : Head) (journal : List Entry) → IsLegal head journal → length journal ≤ 2 * steps_of journal + head.procs
legal-short head journal legal =
    let law = subst (λ (es : List Entry). length es ≤ steps_of es + head.procs + length (all_starts es)) legal (limits-law head journal).length in
    omega (arith, law, starts-few journal)
