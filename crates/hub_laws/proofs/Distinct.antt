-- Processes that are apart from one another are no more than there are numbers for them.
use Rattle.hub_laws.proofs.Prelude.{◌≡◌, true, false, List, [], ◌∷◌, refl, ℕ, ◌==◌, ◌≤◌, length, arith, ◌<◌, map, eqb, or_parts, length-map}
use Rattle.hub_laws.proofs.Prelude.{length-le_from_distinct_below, list_any, AllByRecursion, Pid, OpenCall, Apart, is_among}
use Rattle.std.specs.List.{IsDistinct}
use Rattle.hub_laws.proofs.Calls.{differ-sym}

abbrev numbers : List OpenCall → List ℕ
numbers calls = map (λ call. call.pid.0) calls

distinct : (calls : List OpenCall) → Apart calls → IsDistinct eqb (numbers calls)
unfolding IsDistinct
distinct [] a = tt
distinct (c ∷ cs) a = (apart_from c.pid.0 cs a.0, distinct cs a.1)
  where
    apart_from : (q : ℕ) (calls : List OpenCall) → is_among q calls ≡ false → AllByRecursion (λ y. (q == y) ≡ false) (numbers calls)
    apart_from q [] e = tt
    apart_from q (c ∷ cs) e = let f = or_parts (c.pid.0 == q) (is_among q cs) e in (differ-sym c.pid.0 q f.0, apart_from q cs f.1)

found : (q : ℕ) (calls : List OpenCall) → list_any (eqb q) (numbers calls) ≡ true → is_among q calls ≡ true
found q [] e = e
found q (c ∷ cs) e = grind (arith, found q cs)

-- no more calls wait than there are processes
pub count-below : (procs : ℕ) (calls : List OpenCall) → Apart calls → ((q : ℕ) → is_among q calls ≡ true → q < procs) → length calls ≤ procs
count-below procs calls apart below =
    let most : length (numbers calls) ≤ procs =
    length-le_from_distinct_below (numbers calls) procs (distinct calls apart) (λ q e. below q (found q calls e)) in
    omega (arith, length-map calls (λ (call : OpenCall). call.pid.0))

-- of other processes: as if each had a call without a case
abbrev pub calls_by : List Pid → List OpenCall
calls_by pids = map (λ pid. record { pid = pid; cases = [] }) pids

pub among-calls_by : (q : ℕ) (pids : List Pid) → is_among q (calls_by pids) ≡ list_any (λ g. g.0 == q) pids
among-calls_by q [] = refl
among-calls_by q (p ∷ ps) = rw (among-calls_by q ps) refl
