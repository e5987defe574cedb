-- The open calls that end in one step, each with what its process is told, and those that stay.
use Rattle.hub_laws.proofs.Prelude.{◌≡◌, Bool, true, false, List, [], ◌∷◌, ◌++◌, refl, ap, sym, subst, Option, Some, None, ℕ, ◌==◌, ◌+◌, cond}
use Rattle.hub_laws.proofs.Prelude.{◌||◌, not, arith, eqb-true}
use Rattle.hub_laws.proofs.Prelude.{filter, map, or_parts, list_any, AllByRecursion, filter_map, cons_option, option_map, slice_get, is_some, Case, Event}
use Rattle.hub_laws.proofs.Prelude.{What, Pid, Port, first_with, Placed, Ending, lowest, is_on, without, OpenCall, tells, fired, closing_event}
use Rattle.hub_laws.proofs.Prelude.{closing_outcome, ends_waiting, Apart, is_among}
use Rattle.hub_base.specs.declared.event.What.TheVariants as what
use Rattle.hub_laws.proofs.Branches.{stall_events}
use Rattle.hub_laws.proofs.Calls.{same_number, differ-sym, Found, first-found, lowest-at, lowest-some}

-- an open call that ends, with what its process is told
pub record Ended : Type 0 where
  pub call : OpenCall
  pub what : What

abbrev pub event_of : Ended → Event
event_of x = tells x.call.pid x.what

abbrev pub events_of : List Ended → List Event
events_of xs = map event_of xs

-- where this tells of a case that fired, the case stands in its place
abbrev pub InPlace : List Case → What → Type 0
InPlace cases (what.Fired i o) = (k : Case) × (slice_get cases i ≡ Some k)
InPlace cases w = Unit

-- it tells how a call that waits ends
abbrev pub EndsWell : Ended → Type 0
EndsWell x = (ends_waiting x.what ≡ true) × InPlace x.call.cases x.what

-- this call is taken out of those, and the others are kept
pub data Takes (call : OpenCall) : List OpenCall → List OpenCall → Type 0 where
  here : (calls : List OpenCall) → Takes call (call ∷ calls) calls
  later : (c : OpenCall) (calls kept : List OpenCall) → Takes call calls kept → Takes call (c ∷ calls) (c ∷ kept)

-- these calls end, one after the other, and the others are kept
pub data Leave : List Ended → List OpenCall → List OpenCall → Type 0 where
  nobody : (calls : List OpenCall) → Leave [] calls calls
  next : (x : Ended) (xs : List Ended) (calls rest kept : List OpenCall) → Takes x.call calls rest →
      Leave xs rest kept → Leave (x ∷ xs) calls kept

-- What follows from it

-- what holds of each call holds of those that end and of those that stay
take-all : (P : OpenCall → Type 0) (call : OpenCall) (calls kept : List OpenCall) → Takes call calls kept →
    AllByRecursion P calls → P call × AllByRecursion P kept
take-all P call calls kept (here rest) all = all
take-all P call calls kept (later c cs ks t) all = let r = take-all P call cs ks t all.1 in (r.0, (all.0, r.1))

pub leave-all : (P : OpenCall → Type 0) (xs : List Ended) (calls kept : List OpenCall) → Leave xs calls kept →
    AllByRecursion P calls → AllByRecursion (λ x. P x.call) xs × AllByRecursion P kept
leave-all P xs calls kept (nobody cs) all = (tt, all)
leave-all P xs calls kept (next y ys cs rest ks t l) all =
    let a = take-all P y.call cs rest t all in
    let r = leave-all P ys rest ks l a.1 in
    ((a.0, r.0), r.1)

-- how many of these calls pass
abbrev pub one : Bool → ℕ
one true = 1
one false = 0

abbrev pub count : (OpenCall → Bool) → List OpenCall → ℕ
count test [] = 0
count test (call ∷ calls) = one (test call) + count test calls

abbrev pub count_ended : (OpenCall → Bool) → List Ended → ℕ
count_ended test [] = 0
count_ended test (x ∷ xs) = one (test x.call) + count_ended test xs

take-count : (test : OpenCall → Bool) (call : OpenCall) (calls kept : List OpenCall) → Takes call calls kept →
    one (test call) + count test kept ≡ count test calls
take-count test call calls kept (here rest) = refl
take-count test call calls kept (later c cs ks t) = omega (arith, take-count test call cs ks t)

-- each call ends or stays
pub leave-count : (test : OpenCall → Bool) (xs : List Ended) (calls kept : List OpenCall) → Leave xs calls kept →
    count_ended test xs + count test kept ≡ count test calls
leave-count test xs calls kept (nobody cs) = omega arith
leave-count test xs calls kept (next y ys cs rest ks t l) = grind (arith, take-count, leave-count test ys rest ks l)

-- How calls end

-- some, and then more
pub leave-join : (xs ys : List Ended) (a b c : List OpenCall) → Leave xs a b → Leave ys b c → Leave (xs ++ ys) a c
leave-join xs ys a b c (nobody cs) m = m
leave-join xs ys a b c (next x zs cs rest ks t l) m = next x (zs ++ ys) cs rest c t (leave-join zs ys rest b c l m)

-- one that stays stands before them
pub leave-later : (call : OpenCall) (xs : List Ended) (calls kept : List OpenCall) → Leave xs calls kept →
    Leave xs (call ∷ calls) (call ∷ kept)
leave-later call xs calls kept (nobody cs) = nobody (call ∷ cs)
leave-later call xs calls kept (next y ys cs rest ks t l) =
    next y ys (call ∷ cs) (call ∷ rest) (call ∷ ks) (later call cs rest t) (leave-later call ys rest ks l)

-- of each process one call at most: to take out its call is to leave out its calls

pub without_none : (pid : Pid) (calls : List OpenCall) → is_among pid.0 calls ≡ false → without pid calls ≡ calls
without_none pid [] e = refl
without_none pid (call ∷ calls) e =
    let f = or_parts (call.pid.0 == pid.0) (is_among pid.0 calls) e in
    rw f.0 (ap (λ cs. call ∷ cs) (without_none pid calls f.1))

pub without_head : (call : OpenCall) (calls : List OpenCall) → is_among call.pid.0 calls ≡ false → without call.pid (call ∷ calls) ≡ calls
without_head call calls apart = rw (same_number call.pid.0) (without_none call.pid calls apart)

apart-takes : (calls : List OpenCall) → Apart calls →
    AllByRecursion (λ call. Takes call calls (without call.pid calls)) calls
apart-takes [] a = tt
apart-takes (c ∷ cs) a = (rw (without_head c cs a.0) (here cs), others cs cs (apart-takes cs a.1) a.0)
  where
    others : (all some : List OpenCall) → AllByRecursion (λ call. Takes call all (without call.pid all)) some →
        is_among c.pid.0 some ≡ false →
        AllByRecursion (λ call. Takes call (c ∷ all) (without call.pid (c ∷ all))) some
    others all [] t free = tt
    others all (call ∷ calls) t free =
        let f = or_parts (call.pid.0 == c.pid.0) (is_among c.pid.0 calls) free in
        (rw (differ-sym call.pid.0 c.pid.0 f.0) (later c all (without call.pid all) t.0), others all calls t.1 f.1)

-- the oldest call with a case that passes, where it ends
abbrev pub Goes : List OpenCall → Ending → OpenCall → Type 0
Goes calls x call = call.pid ≡ x.pid → Apart calls → Takes call calls (without x.pid calls)

pub first-goes : (test : Case → Bool) (calls : List OpenCall) (x : Ending) → first_with test calls ≡ Some x →
    Found (Goes calls x) test calls x
first-goes test calls x e = first-found (Goes calls x) test calls x (given calls (apart-takes calls)) e
  where
    given : (some : List OpenCall) →
        (Apart calls → AllByRecursion (λ call. Takes call calls (without call.pid calls)) some) →
        AllByRecursion (Goes calls x) some
    given [] t = tt
    given (c ∷ cs) t =
        (λ same a. subst (λ (p : Pid). Takes c calls (without p calls)) same (t a).0, given cs (λ a. (t a).1))

-- calls that end as `P` says, and what tells it
pub record Parts (P : Ended → Type 0) (calls kept : List OpenCall) (events : List Event) : Type 0 where
  pub ended : List Ended
  pub told : events ≡ events_of ended
  pub each : AllByRecursion P ended
  pub leaves : Leave ended calls kept

-- it ends since port p is closed
pub record ClosedAt (p : Port) (x : Ended) : Type 0 where
  pub at : Placed
  pub tells : x.what ≡ what.Fired at.index (closing_outcome at.case)
  pub on : is_on p at.case ≡ true
  pub stands : slice_get x.call.cases at.index ≡ Some at.case

closed_by : (p : Port) (call : OpenCall) (calls kept : List OpenCall) (events : List Event) (o : Option Placed) →
    o ≡ lowest (is_on p) call.cases → Parts (ClosedAt p) calls kept events →
    Parts (ClosedAt p) (call ∷ calls) (cond (not (is_some o)) (call ∷ kept) kept)
    (cons_option (option_map (λ c. fired call.pid c.index (closing_outcome c.case)) o) events)
closed_by p call calls kept events None is rest = record {
  ended = rest.ended;
  told = rest.told;
  each = rest.each;
  leaves = leave-later call rest.ended calls kept rest.leaves;
}
closed_by p call calls kept events (Some a) is rest =
    let x : Ended = record { call = call; what = what.Fired a.index (closing_outcome a.case) } in
    let l = lowest-at 0 (is_on p) call.cases a (sym is) in
    let k : a.index ≡ l.1.0 = omega (arith, l.1.1) in
    record {
      ended = x ∷ rest.ended;
      told = ap (λ es. event_of x ∷ es) rest.told;
      each = (record { at = a; tells = refl; on = l.0; stands = rw k l.1.2 }, rest.each);
      leaves = next x rest.ended (call ∷ calls) calls kept (here calls) rest.leaves;
    }

-- those that a close ends
pub closed : (p : Port) (calls : List OpenCall) →
    Parts (ClosedAt p) calls (filter (λ call. not (list_any (is_on p) call.cases)) calls)
    (filter_map (closing_event p) calls)
closed p [] = record { ended = []; told = refl; each = tt; leaves = nobody [] }
closed p (call ∷ calls) =
    let kept : List OpenCall = filter (λ call. not (list_any (is_on p) call.cases)) calls in
    rw (← lowest-some 0 (is_on p) call.cases)
    (closed_by p call calls kept (filter_map (closing_event p) calls) (lowest (is_on p) call.cases) refl (closed p calls))

-- the one open call of this process, which a cancel ends
pub record Sole (q : Pid) (calls : List OpenCall) : Type 0 where
  pub call : OpenCall
  pub own : call.pid ≡ q
  pub takes : Apart calls → Takes call calls (without q calls)

pub sole : (q : Pid) (calls : List OpenCall) → is_among q.0 calls ≡ true → Sole q calls
sole q [] h = cc
sole q (c ∷ cs) h = by (c.pid.0 == q.0) refl h (sole q cs)
  where
    by : (b : Bool) → b ≡ (c.pid.0 == q.0) → (b || is_among q.0 cs) ≡ true → (is_among q.0 cs ≡ true → Sole q cs) → Sole q (c ∷ cs)
    by true is h rest =
        let same : c.pid ≡ q = ap (λ (n : ℕ). record { 0 = n }) (eqb-true c.pid.0 q.0 (sym is)) in
        record {
          call = c;
          own = same;
          takes = λ a. subst (λ (p : Pid). Takes c (c ∷ cs) (without p (c ∷ cs))) same (rw (without_head c cs a.0) (here cs));
        }
    by false is h rest =
        let r = rest h in
        record { call = r.call; own = r.own; takes = λ a. rw (sym is) (later c cs (without q cs) (r.takes a.1)) }

-- those that a stall ends: all
pub all_stalled : (calls : List OpenCall) → Parts (λ x. x.what ≡ what.Stalled) calls [] (stall_events calls)
all_stalled [] = record { ended = []; told = refl; each = tt; leaves = nobody [] }
all_stalled (call ∷ calls) =
    let x : Ended = record { call = call; what = what.Stalled } in
    let rest = all_stalled calls in
    record {
      ended = x ∷ rest.ended;
      told = ap (λ es. event_of x ∷ es) rest.told;
      each = (refl, rest.each);
      leaves = next x rest.ended (call ∷ calls) calls [] (here calls) rest.leaves;
    }
