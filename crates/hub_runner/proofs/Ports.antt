-- The ports are made before anything else: no other process asked anything up to there.
use Rattle.std.proofs.Common.{◌≡◌, ℕ, zero, suc, ◌+◌, ◌<◌, ◌==◌, Bool, true, false, cond, List, [], ◌∷◌, ◌++◌, length, get_or, map, refl, ap, ◌∙◌, sym}
use Rattle.std.proofs.Common.{subst, All, arith, eq-eqb}
use Rattle.std.specs.Prelude.{slice_set}
use Rattle.std.specs.List.{AllByRecursion}
use Rattle.std.proofs.Math.Seq.{map-set_same}
use Rattle.std.proofs.lemmas.List.{map-append}
use Rattle.std.proofs.lemmas.List.Elements.{filter-append}
use mathlib.Core.List.{IsPrefix}
use Rattle.hub_base.specs.declared.head.Head.{Head}
use Rattle.hub_base.specs.Entry.{Entry}
use Rattle.hub_base.specs.declared.entry.Step.TheVariants.{Make}
use Rattle.hub_base.specs.Lines.{by}
use Rattle.hub_laws.specs.Journals.{IsLegal}
use Rattle.hub_laws.specs.Replies.{own}
use Rattle.hub_laws.proofs.Limits.{limits-law}
use Rattle.hub_live.specs.SeatView.{SeatView}
use Rattle.hub_live.specs.Calls.{AskedNothing, Later, StandsIn}
use Rattle.hub_base.proofs.Lists.{prefix_trans}
use Rattle.hub_scenario.specs.Scenario.{ScenarioData}
use Rattle.hub_laws.specs.Asked.{Asked, asked}
use Rattle.hub_runner.specs.Ports.{makes_of, BeginsWithPorts}
use Rattle.hub_runner.specs.Running.{AreMakes}
use Rattle.hub_runner.specs.Working.{asker_of}
use Rattle.hub_laws.proofs.Askings.{asked-steps}
use Rattle.hub_runner.proofs.Workers.{nothing_asked}

-- ---- entries of process 0

abbrev AreOfFirst : List Entry → Type 0
AreOfFirst es = AllByRecursion (λ e. e.pid.0 ≡ 0) es

none_left : {A : Type 0} (xs ys : List A) → xs ++ ys ≡ [] → xs ≡ []
none_left [] ys h = refl
none_left (x ∷ xs) ys h = absurd (let g : ⊥ = cc in g)

-- a process that has no entry in a list has none in a beginning of it
pub none_before : (q : ℕ) (es fs : List Entry) → IsPrefix es fs → own q fs ≡ [] → own q es ≡ []
none_before q es fs begins none = none_left (own q es) (own q begins.0)
    (sym (filter-append (λ (e : Entry). e.pid.0 == q) es begins.0) ∙ ap (own q) begins.1 ∙ none)

rest_none : (b : Bool) (e : Entry) (es : List Entry) → cond b (e ∷ es) es ≡ [] → es ≡ []
rest_none true e es none = absurd (let g : ⊥ = cc in g)
rest_none false e es none = none

first_none : (e : Entry) (es : List Entry) → own e.pid.0 (e ∷ es) ≡ [] → ⊥
first_none e es none =
    let is : e ∷ own e.pid.0 es ≡ [] = subst (λ (b : Bool). cond b (e ∷ own e.pid.0 es) (own e.pid.0 es) ≡ []) (eq-eqb e.pid.0 e.pid.0 refl) none in cc

not_some : (n : ℕ) → (0 < n → ⊥) → n ≡ 0
not_some zero h = refl
not_some (suc n) h = absurd (h (omega arith))

-- where each other process below n has none of these entries, all are of process 0
all_of_first : (n : ℕ) (es : List Entry) → AllByRecursion (λ e. e.pid.0 < n) es → ((q : ℕ) → 0 < q → q < n → own q es ≡ []) → AreOfFirst es
all_of_first n [] below none = tt
all_of_first n (e ∷ es) below none = (
  not_some e.pid.0 (λ some. first_none e es (none e.pid.0 some below.0)),
  all_of_first n es below.1 (λ q some low. rest_none (e.pid.0 == q) e (own q es) (none q some low)),
)

own_of_first : (es : List Entry) → AreOfFirst es → own 0 es ≡ es
own_of_first [] first = refl
own_of_first (e ∷ es) first = rw (eq-eqb e.pid.0 0 first.0) (ap (λ xs. e ∷ xs) (own_of_first es first.1))

are_makes : (caps : List ℕ) (all : List Asked) (es : List Entry) → AreOfFirst es → map (λ a. a.step) all ≡ map (λ e. e.step) es → AreMakes caps all
    → es ≡ map (λ cap. by 0 (Make cap)) caps
are_makes [] [] [] first steps makes = refl
are_makes [] [] (e ∷ es) first steps makes = absurd (let g : ⊥ = cc in g)
are_makes [] (a ∷ all) es first steps makes = absurd makes
are_makes (c ∷ caps) [] es first steps makes = absurd makes
are_makes (c ∷ caps) (a ∷ all) [] first steps makes = absurd (let g : ⊥ = cc in g)
are_makes (c ∷ caps) (a ∷ all) (e ∷ es) first steps makes =
    let here : a.step ≡ e.step = cc in
    let later : map (λ (a : Asked). a.step) all ≡ map (λ (e : Entry). e.step) es = cc in
    let one : e ≡ by 0 (Make c) = λ i. record { pid = record { 0 = first.0 i }; step = (sym here ∙ makes.0) i } in
    λ i. one i ∷ are_makes caps all es first.1 later makes.1 i

-- a legal journal in which process 0 asked for these makes, and the others for nothing
pub only_makes : (h : Head) (caps : List ℕ) (es : List Entry) → IsLegal h es → AreMakes caps (asked 0 h es)
    → ((q : ℕ) → 0 < q → q < h.procs → own q es ≡ []) → es ≡ map (λ cap. by 0 (Make cap)) caps
only_makes h caps es legal makes none =
    let below : AllByRecursion (λ e. e.pid.0 < h.procs) es =
    subst (λ (xs : List Entry). AllByRecursion (λ e. e.pid.0 < h.procs) xs) legal (limits-law h es).below in
    let first = all_of_first h.procs es below none in
    are_makes caps (asked 0 h es) es first (asked-steps 0 h es ∙ ap (map (λ (e : Entry). e.step)) (own_of_first es first)) makes

no_steps : (es : List Entry) → map (λ e. e.step) es ≡ [] → es ≡ []
no_steps [] none = refl
no_steps (e ∷ es) none = absurd (let g : ⊥ = cc in g)

-- a process that asked nothing has no entry
pub asked_none : (q : ℕ) (h : Head) (es : List Entry) → asked q h es ≡ [] → own q es ≡ []
asked_none q h es none = no_steps (own q es) (sym (asked-steps q h es) ∙ ap (map (λ (a : Asked). a.step)) none)

pub no_makes : (all : List Asked) → AreMakes [] all → all ≡ []
no_makes [] makes = refl
no_makes (a ∷ all) makes = absurd makes

-- ---- a seat that is shown to others

set_next : (P : SeatView → Type 0) (i : ℕ) (ss : List SeatView) (t : SeatView) → i < length ss → P t
    → ((k : ℕ) (d : SeatView) → k < i → P (get_or ss k d)) → (k : ℕ) (d : SeatView) → k < i + 1 → P (get_or (slice_set ss i t) k d)
set_next P i [] t low here before k d below = absurd (omega arith)
set_next P zero (s ∷ ss) t low here before zero d below = here
set_next P zero (s ∷ ss) t low here before (suc k) d below = absurd (omega arith)
set_next P (suc i) (s ∷ ss) t low here before zero d below = before 0 d (omega arith)
set_next P (suc i) (s ∷ ss) t low here before (suc k) d below =
    set_next P i ss t (omega arith) here (λ j e lt. before (suc j) e (omega (arith, lt))) k d (omega (arith, below))

-- the first seat at the start and now, and the others, of which so many have seen what it had seen at the start
pub record Shown (start now : SeatView) (olds news : List SeatView) (met : ℕ) : Type 0 where
  pub later : Later start now
  pub same : asker_of now ≡ asker_of start
  pub others : map asker_of news ≡ map asker_of olds
  pub shown : (k : ℕ) (d : SeatView) → k < met → IsPrefix start.seen (get_or news k d).seen

same_asker : (s t : SeatView) → Later s t → AskedNothing s t → asker_of t ≡ asker_of s
same_asker s t later same = λ i. record { hub = later.hub i; pid = later.pid i; asked = nothing_asked s t later same i }

pub shown_next : {start now next s t : SeatView} {olds news : List SeatView} (i : ℕ) (d : SeatView) → Shown start now olds news i → i < length news
    → s ≡ get_or news i d → Later now next → AskedNothing now next → Later s t → AskedNothing s t → next.seen ≡ t.seen
    → Shown start next olds (slice_set news i t) (i + 1)
shown_next {start} {now} {next} {s} {t} {olds} {news} i d so low is later same other other_same together = record {
  later = record {
    hub = later.hub ∙ so.later.hub;
    pid = later.pid ∙ so.later.pid;
    begins = prefix_trans start.seen now.seen next.seen so.later.begins later.begins;
    idle = later.idle;
  };
  same = same_asker now next later same ∙ so.same;
  others = map-set_same asker_of news i t d (same_asker s t other other_same ∙ ap asker_of is) ∙ so.others;
  shown = set_next (λ u. IsPrefix start.seen u.seen) i news t low
      (subst (IsPrefix start.seen) together (prefix_trans start.seen now.seen next.seen so.later.begins later.begins)) so.shown;
}

-- ---- the journal

-- it begins as each seat has seen it begin
pub ports_first : (sc : ScenarioData) (done : List SeatView) (journal : List Entry) → 0 < length done → All (λ s. BeginsWithPorts sc s.seen) done
    → All (λ s. StandsIn s journal) done → BeginsWithPorts sc journal
ports_first sc [] journal some ports stands = absurd (omega arith)
ports_first sc (s ∷ done) journal some ports stands =
    prefix_trans (makes_of sc) s.seen journal (ports 0 s (omega arith)) (stands 0 s (omega arith)).begins

-- the makes of some of the ports are a beginning of the makes
pub makes_begin : (sc : ScenarioData) (made : List ℕ) (journal : List Entry) → IsPrefix made sc.ports → journal ≡ map (λ cap. by 0 (Make cap)) made
    → IsPrefix journal (makes_of sc)
makes_begin sc made journal begins is = (
  map (λ cap. by 0 (Make cap)) begins.0,
  ap (λ (es : List Entry). es ++ map (λ cap. by 0 (Make cap)) begins.0) is
      ∙ sym (map-append (λ cap. by 0 (Make cap)) made begins.0) ∙ ap (map (λ cap. by 0 (Make cap))) begins.1,
)
