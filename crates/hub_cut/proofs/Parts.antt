-- A checkpoint that is written part by part.
use Rattle.hub_laws.proofs.Prelude.{◌≡◌, Bool, true, false, List, [], ◌∷◌, ◌++◌, refl, ap, ◌∙◌, sym, Option, Some, None, ℕ, zero, suc, ◌+◌, ◌≤◌, ◌<◌}
use Rattle.hub_laws.proofs.Prelude.{◌==◌, ◌-◌, cond, length, arith, map, take, filter, slice_get, option_map_or, add-one, append_assoc, append-nil, get_or}
use Rattle.hub_laws.proofs.Prelude.{drop, steps_of, and_parts, has_gone, map-append, Entry}
use Rattle.hub_laws.proofs.Prelude.{Port, Channel, State, OpenCall, channel_at, buffer_of}
use Rattle.hub_laws.proofs.Prelude.{lt-ltb, Pid, Head, refusal, is_waiting, state, MOST_PORTS}
use Rattle.std.specs.List.{range_with_len, list_all}
use Rattle.std.proofs.lemmas.List.{take_all}
use Rattle.hub_base.specs.declared.fault.Fault.TheVariants as fault
use Rattle.hub_laws.specs.Journals.{IsLegal}
use Rattle.hub_laws.proofs.Lasting.{ports-law, procs-after}
use Rattle.hub_laws.proofs.Rules.{state-sound}
use Rattle.hub_laws.proofs.States.{count-law}
use Rattle.hub_core.specs.Looks.{value_at}
use Rattle.hub_core.specs.HubView.{HubView, state_of}
use Rattle.hub_chapters.proofs.Checkpoints.{checkpoint-law}
use Rattle.hub_chapters.proofs.Chapters.{runs-on}
use Rattle.hub_cut.specs.Cut.{IsCut, renewed_hub}
use Rattle.hub_base.specs.Notation.{exit}
use Rattle.hub_chapters.specs.Checkpoint.{checkpoint, send_again, port_again, ports_again, call_again, exited}
use Rattle.hub_cut.specs.Written.{is_gone, one_of, sent_entries, port_entries}

take_suc : {A : Type 0} (f : A → Entry) (n : ℕ) (xs : List A) → map f (take (suc n) xs) ≡ map f (take n xs) ++ one_of f (slice_get xs n)
take_suc f zero [] = refl
take_suc f zero (x ∷ xs) = refl
take_suc f (suc n) [] = refl
take_suc f (suc n) (x ∷ xs) = ap (λ es. f x ∷ es) (take_suc f n xs)

take_next : {A : Type 0} (f : A → Entry) (n : ℕ) (xs : List A) → map f (take (n + 1) xs) ≡ map f (take n xs) ++ one_of f (slice_get xs n)
take_next f n xs = ap (λ k. map f (take k xs)) (add-one n) ∙ take_suc f n xs

pub sent_more : (s : State) (p : Port) (n : ℕ) → sent_entries s p (n + 1) ≡ sent_entries s p n ++ one_of (send_again p.0) (value_at s p n)
sent_more s p n = by (channel_at s p) refl
  where
    by : (o : Option Channel) → o ≡ channel_at s p → sent_entries s p (n + 1) ≡ sent_entries s p n ++ one_of (send_again p.0) (value_at s p n)
    by None is = rw (← is) refl
    by (Some c) is = rw (← is) (take_next (send_again p.0) n (buffer_of c))

pub calls_more : (n : ℕ) (calls : List OpenCall) → map call_again (take (n + 1) calls) ≡ map call_again (take n calls) ++ one_of call_again (slice_get calls n)
calls_more n calls = take_next call_again n calls

more : (b : Bool) (xs ys zs : List ℕ) → xs ≡ ys ++ zs → (a : ℕ) → cond b (a ∷ xs) xs ≡ cond b (a ∷ ys) ys ++ zs
more true xs ys zs e a = ap (λ l. a ∷ l) e
more false xs ys zs e a = e

gone_suc : (test : ℕ → Bool) (n a m : ℕ) → a + n ≡ m → filter test (range_with_len a (suc n)) ≡ filter test (range_with_len a n) ++ cond (test m) (m ∷ []) []
gone_suc test zero a m is = ap (λ k. cond (test k) (k ∷ []) []) (let e : a ≡ m = omega arith in e)
gone_suc test (suc n) a m is =
    more (test a) (filter test (range_with_len (a + 1) (suc n))) (filter test (range_with_len (a + 1) n)) (cond (test m) (m ∷ []) [])
    (gone_suc test n (a + 1) m (omega arith)) a

pub gone_more : (test : ℕ → Bool) (n : ℕ) → map exit (filter test (range_with_len 0 (n + 1)))
    ≡ map exit (filter test (range_with_len 0 n)) ++ map exit (cond (test n) (n ∷ []) [])
gone_more test n =
    ap (λ k. map exit (filter test (range_with_len 0 k))) (add-one n)
    ∙ ap (map exit) (gone_suc test n 0 n (omega arith))
    ∙ map-append exit (filter test (range_with_len 0 n)) (cond (test n) (n ∷ []) [])

ports_next : (n m : ℕ) (cs : List Channel) →
    ports_again m (take (suc n) cs) ≡ ports_again m (take n cs) ++ option_map_or (port_again (m + n)) (slice_get cs n) []
ports_next zero m [] = refl
ports_next zero m (c ∷ cs) = append-nil (port_again m c) ∙ ap (λ k. port_again k c) (let e : m ≡ m + 0 = omega arith in e)
ports_next (suc n) m [] = refl
ports_next (suc n) m (c ∷ cs) =
    let e : m + 1 + n ≡ m + suc n = omega arith in
    ap (λ es. port_again m c ++ es) (ports_next n (m + 1) cs ∙ ap (λ k. ports_again (m + 1) (take n cs) ++ option_map_or (port_again k) (slice_get cs n) []) e)
    ∙ sym (append_assoc (port_again m c) (ports_again (m + 1) (take n cs)) (option_map_or (port_again (m + suc n)) (slice_get cs n) []))

at_place : (s : State) (n : ℕ) → channel_at s (record { 0 = n + 1 }) ≡ slice_get s.channels n
at_place s n =
    let b : (n + 1 == 0) ≡ false = grind arith in
    let k : n + 1 - 1 ≡ n = omega arith in
    rw (b, k) refl

pub ports_more : (n : ℕ) (s : State) → ports_again 1 (take (n + 1) s.channels) ≡ ports_again 1 (take n s.channels) ++ port_entries s (record { 0 = n + 1 })
ports_more n s =
    let e : 1 + n ≡ n + 1 = omega arith in
    ap (λ k. ports_again 1 (take k s.channels)) (add-one n)
    ∙ ports_next n 1 s.channels
    ∙ ap (λ k. ports_again 1 (take n s.channels) ++ option_map_or (port_again k) (slice_get s.channels n) []) e
    ∙ ap (λ (o : Option Channel). ports_again 1 (take n s.channels) ++ option_map_or (port_again (n + 1)) o []) (sym (at_place s n))

-- what holds of all of a list holds at each place
pub all_at : {A : Type 0} (f : A → Bool) (xs : List A) (i : ℕ) (x : A) → list_all f xs ≡ true → i < length xs → x ≡ get_or xs i x → f x ≡ true
all_at f [] i x a h e = absurd (omega arith)
all_at f (y ∷ ys) zero x a h e = ap f e ∙ (and_parts (f y) (list_all f ys) a).0
all_at f (y ∷ ys) (suc i) x a h e = all_at f ys i x (and_parts (f y) (list_all f ys) a).1 (omega arith) e

-- what was written, and a part more
pub grown : (base old new part next whole : List Entry) → new ≡ old ++ next → old ≡ base ++ part → whole ≡ part ++ next → new ≡ base ++ whole
grown base old new part next whole a b c = a ∙ ap (λ xs. xs ++ next) b ∙ append_assoc base part next ∙ ap (λ xs. base ++ xs) (sym c)

-- A list at a place

pub parts_at : (es : List Entry) (i : ℕ) (e : Entry) → i < length es → e ≡ get_or es i e → es ≡ take i es ++ e ∷ drop (suc i) es
parts_at [] i e h is = absurd (omega arith)
parts_at (x ∷ es) zero e h is = ap (λ (y : Entry). y ∷ es) (sym is)
parts_at (x ∷ es) (suc i) e h is = ap (λ ys. x ∷ ys) (parts_at es i e (omega arith) is)

-- Who has gone, from a refusal

pub gone_is : (s : State) (q : Pid) → q.0 < s.head.procs → is_gone (refusal s q) ≡ has_gone s q.0
gone_is s q below = rw (lt-ltb q.0 s.head.procs below) (by (has_gone s q.0))
  where
    waits : (b : Bool) → is_gone (cond b (Some fault.Busy) None) ≡ false
    waits true = refl
    waits false = refl

    by : (b : Bool) → is_gone (cond b (Some fault.Gone) (cond (is_waiting s q.0) (Some fault.Busy) None)) ≡ b
    by true = refl
    by false = waits (is_waiting s q.0)

-- All of a state's ports and open calls

pub all_ports : (h : Head) (es : List Entry) (n : ℕ) → MOST_PORTS ≤ n → take n (state h es).channels ≡ (state h es).channels
all_ports h es n enough = take_all n (state h es).channels (let most = ports-law h es in omega arith)

pub all_calls : (h : Head) (es : List Entry) (n : ℕ) → h.procs ≤ n → take n (state h es).parked ≡ (state h es).parked
all_calls h es n enough = take_all n (state h es).parked (let most = count-law (state h es) (state-sound h es) in let n = procs-after h es in omega arith)

-- what adds up over lists adds up over the parts of a checkpoint
pub checkpoint_parts : (f : List Entry → ℕ) → ((xs ys : List Entry) → f (xs ++ ys) ≡ f xs + f ys) → (s : State)
    → f (checkpoint s) ≡ f (ports_again 1 s.channels) + f (map exit (exited s)) + f (map call_again s.parked)
checkpoint_parts f adds s =
    let ports : List Entry = ports_again 1 s.channels in
    let exits : List Entry = map exit (exited s) in
    adds (ports ++ exits) (map call_again s.parked) ∙ ap (λ n. n + f (map call_again s.parked)) (adds ports exits)

-- all processes of a hub, counted
pub at_procs : (hub : HubView) (head : Head) (n : ℕ) → head ≡ hub.terms.head → head.procs ≤ n → n ≤ head.procs → n ≡ (state_of hub).head.procs
at_procs hub head n is least most = omega (arith, ap (λ (h : Head). h.procs) is, least, most, procs-after hub.terms.head hub.journal)

-- A cut

-- the checkpoint keeps within the journal's limit
pub checkpoint_within : (hub : HubView) → IsLegal hub.terms.head hub.journal → steps_of hub.journal ≤ hub.terms.limit →
    steps_of (checkpoint (state_of hub)) ≤ hub.terms.limit
checkpoint_within hub legal few = omega (arith, (checkpoint-law hub.terms.head hub.journal).steps, ap steps_of legal, few)

pub cut_law : (old : HubView) → IsCut old (renewed_hub old)
cut_law old =
    let h : Head = old.terms.head in
    let law = checkpoint-law h old.journal in
    record { hub = refl; alike = law.alike; follows = λ later. runs-on h (checkpoint (state h old.journal)) old.journal later law.alike }
