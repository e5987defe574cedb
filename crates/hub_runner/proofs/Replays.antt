-- One entry more of a replay.
use Rattle.std.proofs.Common.{◌≡◌, ◌≤◌, ◌<◌, ◌+◌, ◌-◌, ◌==◌, ℕ, Bool, true, false, cond, zero, suc, List, [], ◌∷◌, ◌++◌, length}
use Rattle.std.proofs.Common.{◌*◌, filter, replicate, refl, ap, ◌∙◌, sym, Option, Some, None, arith, get_or, take, add-one}
use Rattle.std.specs.Prelude.{slice_set, slice_index_or}
use Rattle.std.specs.List.{sum_by, cons_option}
use Rattle.std.specs.Option.{option_map_or}
use Rattle.std.proofs.Math.ListN.{length-set}
use Rattle.std.proofs.Math.Seq.{take-suc}
use Rattle.std.proofs.lemmas.Bool.{eqb-true, eqb-false}
use Rattle.std.proofs.lemmas.List.{length-append, get_or-set_same, get_or-set_other}
use Rattle.std.proofs.lemmas.List.Elements.{filter-append}
use Rattle.std.proofs.lemmas.List.Sums.{sum_by-cons, sum_by-append, length-filter, count_by-le-length}
use Rattle.hub_base.specs.declared.head.Head.{Head}
use Rattle.hub_base.specs.declared.value.Port.{Port}
use Rattle.hub_base.specs.declared.value.Value.{Value}
use Rattle.hub_base.specs.Entry.{Entry, Step}
use Rattle.hub_base.specs.declared.event.Event.{Event}
use Rattle.hub_base.specs.declared.event.What.{What}
use Rattle.hub_base.specs.declared.limits.TheConstants.{MOST_EVENTS, MOST_PORTS, MOST_PROCS, MOST_STEPS}
use Rattle.hub_base.specs.Runs.{state, events, moves}
use Rattle.hub_base.specs.Text.{steps_of}
use Rattle.hub_runner.specs.Reports.{number_of}
use Rattle.hub_base.specs.Values.{is_fault}
use Rattle.hub_laws.specs.Journals.{IsLegal}
use Rattle.hub_laws.specs.OnePort.{IsMade, is_port, port_touched}
use Rattle.hub_laws.specs.Received.{value_got, got_in, got_at, received_from, received_on}
use Rattle.hub_laws.proofs.Lasting.{ports-law}
use Rattle.hub_laws.proofs.Limits.{legal-short}
use Rattle.hub_laws.proofs.Longer.{events-entry}
use Rattle.hub_laws.proofs.OnePort.{one_port-law}
use Rattle.hub_laws.proofs.Received.{received_values-law}
use Rattle.hub_laws.proofs.Values.{no_total}
use Rattle.hub_core.specs.Records.{MachineLists}
use Rattle.hub_core.specs.Follows.{Follows, Answers}
use Rattle.hub_runner.specs.declared.replayed.Replayed.{Replayed}
use Rattle.hub_runner.specs.Reports.{how_many, is_stalled}
use Rattle.hub_runner.specs.Replays.{with_sum, with_told, number_told, most_got, HasRoom, Tells, Within}

-- ---- what events tell
sum-told : (es : List Event) → sum_by number_told es ≡ sum_by number_of (got_in es)
sum-told [] = refl
sum-told (e ∷ es) = sum_by-cons number_told e es ∙ ap (λ n. number_told e + n) (sum-told es) ∙ by (value_got e.what)
  where
    by : (o : Option Value) → option_map_or number_of o 0 + sum_by number_of (got_in es) ≡ sum_by number_of (cons_option o (got_in es))
    by None = omega arith
    by (Some v) = sym (sum_by-cons number_of v (got_in es))

pub how_many-append : (test : What → Bool) (xs ys : List Event) → how_many test (xs ++ ys) ≡ how_many test xs + how_many test ys
how_many-append test xs ys = ap length (filter-append (λ (e : Event). test e.what) xs ys)
    ∙ length-append (filter (λ (e : Event). test e.what) xs) (filter (λ (e : Event). test e.what) ys)

pub how_many-most : (test : What → Bool) (es : List Event) → how_many test es ≤ length es
how_many-most test es = rw (length-filter (λ (e : Event). test e.what) es) (count_by-le-length (λ (e : Event). test e.what) es)

-- ---- the sums
-- the sum of a port, after one port's sum has grown
sum_at : (sums : List ℕ) (o : Option Port) (more : ℕ) (p : Port) → length sums ≡ MOST_PORTS
    → IsMade p MOST_PORTS → ((q : Port) → o ≡ Some q → IsMade q MOST_PORTS)
    → slice_index_or (with_sum sums o more) (p.0 - 1) 0 ≡ slice_index_or sums (p.0 - 1) 0 + cond (is_port o p) more 0
sum_at sums None more p places made named = omega arith
sum_at sums (Some q) more p places made named = by (q.0 == p.0) refl
  where
    by : (b : Bool) → b ≡ (q.0 == p.0) → slice_index_or (slice_set sums (q.0 - 1) (slice_index_or sums (q.0 - 1) 0 + more)) (p.0 - 1) 0
        ≡ slice_index_or sums (p.0 - 1) 0 + cond b more 0
    by true is =
        let same : q.0 ≡ p.0 = eqb-true q.0 p.0 (sym is) in
        rw same (get_or-set_same sums (p.0 - 1) (slice_index_or sums (p.0 - 1) 0 + more) 0 (omega (arith, made.some, made.few)))
    by false is =
        let m = named q refl in
        let other : (p.0 - 1 ≡ q.0 - 1) → ⊥ = λ e. eqb-false q.0 p.0 (sym is) (omega (arith, made.some, m.some)) in
        get_or-set_other sums (q.0 - 1) (p.0 - 1) (slice_index_or sums (q.0 - 1) 0 + more) 0 other ∙ omega arith

-- no sum has grown by more
sum_most : (sums : List ℕ) (o : Option Port) (more : ℕ) (k : ℕ) → slice_index_or (with_sum sums o more) k 0 ≤ slice_index_or sums k 0 + more
sum_most sums None more k = omega arith
sum_most sums (Some q) more k = set_most sums (q.0 - 1) k
  where
    set_most : (xs : List ℕ) (i k : ℕ) → slice_index_or (slice_set xs i (slice_index_or xs i 0 + more)) k 0 ≤ slice_index_or xs k 0 + more
    set_most [] i k = omega arith
    set_most (x ∷ xs) zero zero = omega arith
    set_most (x ∷ xs) zero (suc k) = omega arith
    set_most (x ∷ xs) (suc i) zero = omega arith
    set_most (x ∷ xs) (suc i) (suc k) = set_most xs i k

pub length-with_sum : (sums : List ℕ) (o : Option Port) (more : ℕ) → length (with_sum sums o more) ≡ length sums
length-with_sum sums None more = refl
length-with_sum sums (Some q) more = length-set sums (q.0 - 1) (slice_index_or sums (q.0 - 1) 0 + more)

pub none-summed : (n k : ℕ) → slice_index_or {A = ℕ} (replicate n 0) k 0 ≡ 0
none-summed zero k = refl
none-summed (suc n) zero = refl
none-summed (suc n) (suc k) = none-summed n k

sum_cond : (b : Bool) (vs : List Value) → sum_by number_of (cond b vs []) ≡ cond b (sum_by number_of vs) 0
sum_cond true vs = refl
sum_cond false vs = refl

-- ---- an entry
module _ (head : Head) (es : List Entry) (e : Entry) (old : Replayed) (machine : MachineLists) (told : List Event)
    (tells : Tells head es old) (answers : Answers head es e machine told) where
  abbrev now : Replayed
  now = with_told (record old { machine = machine }) e.step told

  pub one-more-told : ((q : Port) → port_touched e.step told ≡ Some q → IsMade q MOST_PORTS) → Tells head (es ++ e ∷ []) now
  one-more-told named = record {
    follows = answers.follows;
    places = length-with_sum old.sums (port_touched e.step told) (sum_by number_told told) ∙ tells.places;
    sums = λ p made.
        let grown = (received_values-law head es e).adds p in
        let same : port_touched e.step told ≡ port_touched e.step (moves (state head es) e).events = ap (port_touched e.step) answers.events in
        sum_at old.sums (port_touched e.step told) (sum_by number_told told) p tells.places made named
        ∙ ap (λ k. k + cond (is_port (port_touched e.step told) p) (sum_by number_told told) 0) (tells.sums p made)
        ∙ ap (λ k. sum_by number_of (received_on (state head es) p) + cond (is_port (port_touched e.step told) p) k 0) (sum-told told)
        ∙ ap (λ k. sum_by number_of (received_on (state head es) p) + k) (sym (sum_cond (is_port (port_touched e.step told) p) (got_in told)))
        ∙ ap (λ (ts : List Event). sum_by number_of (received_on (state head es) p) + sum_by number_of (got_at (port_touched e.step ts) ts p)) answers.events
        ∙ sym (sum_by-append number_of (received_on (state head es) p)
        (got_at (port_touched e.step (moves (state head es) e).events) (moves (state head es) e).events p))
        ∙ ap (sum_by number_of) (sym grown);
    stalled = counted _ tells.stalled;
    faults = counted _ tells.faults;
  }
    where
      counted : {k : ℕ} (test : What → Bool) → k ≡ how_many test (events head es) → k + how_many test told ≡ how_many test (events head (es ++ e ∷ []))
      counted test is = ap (λ k. k + how_many test told) is ∙ ap (λ ts. how_many test (events head es) + how_many test ts) answers.events
          ∙ sym (how_many-append test (events head es) (moves (state head es) e).events) ∙ ap (how_many test) (sym (events-entry head es e))

-- a port that is named is made
pub made_by : (head : Head) (es : List Entry) (e : Entry) (machine : MachineLists) (told : List Event) → Answers head es e machine told
    → (q : Port) → port_touched e.step told ≡ Some q → IsMade q MOST_PORTS
made_by head es e machine told answers q h =
    let touched : port_touched e.step (moves (state head es) e).events ≡ Some q = ap (port_touched e.step) (sym answers.events) ∙ h in
    let made = (one_port-law head es e).made q touched in
    record { some = made.some; few = omega (arith, made.few, ports-law head (es ++ e ∷ [])) }

-- ---- bounds
pub entries_fit : (head : Head) (es : List Entry) → IsLegal head es → head.procs ≤ MOST_PROCS → steps_of es ≤ MOST_STEPS →
    length es ≤ 2 * MOST_STEPS + MOST_PROCS
entries_fit head es legal procs few = omega (arith, legal-short head es legal)

pub room-within : (i : ℕ) (r : Replayed) (machine : MachineLists) → Within i r → i ≤ 2 * MOST_STEPS + MOST_PROCS → HasRoom (record r { machine = machine })
room-within i r machine within few = record {
  sums = λ k. omega (arith, within.sums k);
  stalled = omega (arith, within.stalled);
  faults = omega (arith, within.faults);
}

within_more : (i : ℕ) (old : Replayed) (machine : MachineLists) (step : Step) (told : List Event) → Within i old → machine.steps ≤ old.machine.steps + 1
    → length told ≤ MOST_EVENTS → sum_by number_told told ≤ most_got → Within (i + 1) (with_told (record old { machine = machine }) step told)
within_more i old machine step told within steps few fits = record {
  steps = omega (arith, within.steps);
  sums = λ k. omega (arith, sum_most old.sums (port_touched step told) (sum_by number_told told) k, within.sums k);
  stalled = omega (arith, within.stalled, how_many-most is_stalled told);
  faults = omega (arith, within.faults, how_many-most is_fault told);
}

pub next-told : (head : Head) (entries : List Entry) (i : ℕ) (e : Entry) (old : Replayed) (machine : MachineLists) (told : List Event) (new : Replayed)
    → i < length entries → e ≡ get_or entries i e → Tells head (take i entries) old → Within i old → Answers head (take i entries) e machine told
    → machine.steps ≤ old.machine.steps + 1 → length told ≤ MOST_EVENTS → sum_by number_told told ≤ most_got
    → new ≡ with_told (record old { machine = machine }) e.step told → Tells head (take (i + 1) entries) new × Within (i + 1) new
next-told head entries i e old machine told new below is tells within answers steps few fits made =
    let grown : take (i + 1) entries ≡ take i entries ++ e ∷ [] = rw add-one (take-suc entries i e below) ∙ ap (λ x. take i entries ++ x ∷ []) (sym is) in
    rw (grown, made) (
      one-more-told head (take i entries) e old machine told tells answers (made_by head (take i entries) e machine told answers),
      within_more i old machine e.step told within steps few fits,
    )

-- ---- before any entry
pub none-told : (head : Head) (machine : MachineLists) (sums : List ℕ) → sums ≡ replicate MOST_PORTS 0 → Follows head [] machine
    → Tells head [] (record { machine = machine; sums = sums; stalled = 0; faults = 0 })
none-told head machine sums is follows = record {
  follows = follows;
  places = rw is refl;
  sums = λ p made. rw is (none-summed MOST_PORTS (p.0 - 1) ∙ ap (sum_by number_of) (sym (no_total received_from p)));
  stalled = refl;
  faults = refl;
}

pub none-within : (head : Head) (machine : MachineLists) (sums : List ℕ) → sums ≡ replicate MOST_PORTS 0 → Follows head [] machine
    → Within 0 (record { machine = machine; sums = sums; stalled = 0; faults = 0 })
none-within head machine sums is follows = record {
  steps = omega (arith, follows.steps);
  sums = λ k. rw (is, none-summed MOST_PORTS k) (omega arith);
  stalled = omega arith;
  faults = omega arith;
}
