-- The entries of a checkpoint: how many are no exits, and that they are of the edition.
use Rattle.hub_laws.proofs.Prelude.{◌≡◌, Bool, true, false, List, [], ◌∷◌, ◌++◌, refl, ℕ, ◌+◌, cond, suc, zero, length, arith, map, drop}
use Rattle.hub_laws.proofs.Prelude.{AllByRecursion, all_snoc, all_append, and_parts}
use Rattle.hub_laws.proofs.Prelude.{Entry, Step, Make, Call, Close, Exit, Cancel, Start, Reopen, Case, Edition, Head, Value, Channel, State, OpenCall}
use Rattle.hub_laws.proofs.Prelude.{opening}
use Rattle.hub_laws.proofs.Prelude.{state, buffer_of, steps_of}
use Rattle.std.specs.List.{list_all}
use Rattle.hub_base.specs.Head.{AreOf, is_of, has_case, has_value}
use Rattle.hub_base.specs.Lines.{by}
use Rattle.hub_base.specs.Notation.{exit}
use Rattle.hub_chapters.specs.Checkpoint.{send_again, port_again, ports_again, call_again, exited, checkpoint}
use Rattle.hub_chapters.proofs.Holding.{Kept, CasesHold, holds-after}
use Rattle.hub_chapters.proofs.Weights.{weight, weights, weight_of, one}

-- How many are no exits

steps-append : (xs ys : List Entry) → steps_of (xs ++ ys) ≡ steps_of xs + steps_of ys
steps-append [] ys = omega arith
steps-append (x ∷ xs) ys = omega (arith, steps-append xs ys)

sends_steps : (n : ℕ) (vs : List Value) → steps_of (map (send_again n) vs) ≡ length vs
sends_steps n [] = refl
sends_steps n (v ∷ vs) = omega (arith, sends_steps n vs)

close_steps : (n : ℕ) (b : Bool) → steps_of (cond b (by 0 (Close (record { 0 = n })) ∷ []) []) ≡ one b
close_steps n true = refl
close_steps n false = refl

port_steps : (n : ℕ) (c : Channel) → steps_of (port_again n c) ≡ weight c
port_steps n c =
    let a = steps-append (map (send_again n) (buffer_of c)) (cond c.closed (by 0 (Close (record { 0 = n })) ∷ []) []) in
    omega (arith, sends_steps n (buffer_of c), close_steps n c.closed)

ports_steps : (n : ℕ) (cs : List Channel) → steps_of (ports_again n cs) ≡ weights cs
ports_steps n [] = refl
ports_steps n (c ∷ cs) = let a = steps-append (port_again n c) (ports_again (n + 1) cs) in omega (arith, port_steps n c, ports_steps (n + 1) cs)

exits_steps : (qs : List ℕ) → steps_of (map exit qs) ≡ 0
exits_steps [] = refl
exits_steps (q ∷ qs) = omega (arith, exits_steps qs)

parks_steps : (calls : List OpenCall) → steps_of (map call_again calls) ≡ length calls
parks_steps [] = refl
parks_steps (c ∷ cs) = omega (arith, parks_steps cs)

pub checkpoint-steps : (s : State) → steps_of (checkpoint s) ≡ weight_of s
checkpoint-steps s =
    let exits : List Entry = map exit (exited s) in
    let a = steps-append (ports_again 1 s.channels ++ exits) (map call_again s.parked) in
    let b = steps-append (ports_again 1 s.channels) exits in
    omega (arith, ports_steps 1 s.channels, exits_steps (exited s), parks_steps s.parked)

-- Their edition

abbrev Values : Edition → Channel → Type 0
Values edition c = AllByRecursion (λ v. has_value edition v ≡ true) c.sent

abbrev HasCase : Edition → Case → Type 0
HasCase edition k = has_case edition k ≡ true

values_kept : (edition : Edition) → Kept (Values edition) (HasCase edition)
values_kept edition = record {
  made = λ cap few. tt;
  sent = λ p v c q h. all_snoc (λ w. has_value edition w ≡ true) c.sent v h q;
  received = λ c h. h;
  shuts = λ c h. h;
  opens = λ cap c few h. h;
}

all_from : {A : Type 0} (f : A → Bool) (xs : List A) → list_all f xs ≡ true → AllByRecursion (λ x. f x ≡ true) xs
all_from f [] e = tt
all_from f (x ∷ xs) e = let p = and_parts (f x) (list_all f xs) e in (p.0, all_from f xs p.1)

all_to : {A : Type 0} (f : A → Bool) (xs : List A) → AllByRecursion (λ x. f x ≡ true) xs → list_all f xs ≡ true
all_to f [] a = refl
all_to f (x ∷ xs) a = rw (a.0, all_to f xs a.1) refl

step_cases : (edition : Edition) (step : Step) → is_of edition step ≡ true → CasesHold (HasCase edition) step
step_cases edition (Make cap) e = tt
step_cases edition (Call cases default word) e = all_from (has_case edition) cases.items e
step_cases edition (Close p) e = tt
step_cases edition Exit e = tt
step_cases edition (Cancel q) e = tt
step_cases edition (Start q) e = tt
step_cases edition (Reopen p cap) e = tt

steps_cases : (edition : Edition) (es : List Entry) → AreOf edition es → AllByRecursion (λ e. CasesHold (HasCase edition) e.step) es
steps_cases edition [] a = tt
steps_cases edition (e ∷ es) a =
    let p = and_parts (is_of edition e.step) (list_all (λ e. is_of edition e.step) es) a in (step_cases edition e.step p.0, steps_cases edition es p.1)

abbrev IsOf : Edition → Entry → Type 0
IsOf edition e = is_of edition e.step ≡ true

all_drop : {A : Type 0} (P : A → Type 0) (n : ℕ) (xs : List A) → AllByRecursion P xs → AllByRecursion P (drop n xs)
all_drop P zero xs a = a
all_drop P (suc n) [] a = tt
all_drop P (suc n) (x ∷ xs) a = all_drop P n xs a.1

sends_of : (edition : Edition) (n : ℕ) (vs : List Value) → AllByRecursion (λ v. has_value edition v ≡ true) vs →
    AllByRecursion (IsOf edition) (map (send_again n) vs)
sends_of edition n [] a = tt
sends_of edition n (v ∷ vs) a = (rw a.0 refl, sends_of edition n vs a.1)

close_of : (edition : Edition) (n : ℕ) (b : Bool) → AllByRecursion (IsOf edition) (cond b (by 0 (Close (record { 0 = n })) ∷ []) [])
close_of edition n true = (refl, tt)
close_of edition n false = tt

ports_of : (edition : Edition) (n : ℕ) (cs : List Channel) → AllByRecursion (Values edition) cs → AllByRecursion (IsOf edition) (ports_again n cs)
ports_of edition n [] a = tt
ports_of edition n (c ∷ cs) a =
    let vs = sends_of edition n (buffer_of c) (all_drop (λ v. has_value edition v ≡ true) c.received c.sent a.0) in
    let one : AllByRecursion (IsOf edition) (port_again n c) =
    let closes : List Entry = cond c.closed (by 0 (Close (record { 0 = n })) ∷ []) [] in
    (refl, all_append (IsOf edition) (map (send_again n) (buffer_of c)) closes vs (close_of edition n c.closed)) in
    all_append (IsOf edition) (port_again n c) (ports_again (n + 1) cs) one (ports_of edition (n + 1) cs a.1)

exits_are : (edition : Edition) (qs : List ℕ) → AllByRecursion (IsOf edition) (map exit qs)
exits_are edition [] = tt
exits_are edition (q ∷ qs) = (refl, exits_are edition qs)

parks_are : (edition : Edition) (calls : List OpenCall) → AllByRecursion (λ call. AllByRecursion (HasCase edition) call.cases) calls →
    AllByRecursion (IsOf edition) (map call_again calls)
parks_are edition [] a = tt
parks_are edition (c ∷ cs) a = (all_to (has_case edition) c.cases a.0, parks_are edition cs a.1)

pub checkpoint-fits : (h : Head) (es : List Entry) → AreOf h.edition es → AreOf h.edition (checkpoint (state h es))
checkpoint-fits h es a =
    let s : State = state h es in
    let e : Edition = h.edition in
    let holds = holds-after (Values e) (HasCase e) (values_kept e) (opening h) es (record { channels = tt; calls = tt }) (steps_cases e es a) in
    let exits : List Entry = map exit (exited s) in
    let first = all_append (IsOf e) (ports_again 1 s.channels) exits (ports_of e 1 s.channels holds.channels) (exits_are e (exited s)) in
    all_to (λ (x : Entry). is_of e x.step) (checkpoint s)
    (all_append (IsOf e) (ports_again 1 s.channels ++ exits) (map call_again s.parked) first (parks_are e s.parked holds.calls))
