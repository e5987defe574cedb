-- A checkpoint whose steps are made in a hub as they are found.
use Rattle.hub_laws.proofs.Prelude.{◌≡◌, Bool, true, false, List, [], ◌∷◌, ◌++◌, refl, ap, ◌∙◌, sym, subst, None, ℕ, zero, suc, ◌+◌, ◌-◌, ◌≤◌, ◌<◌, arith}
use Rattle.hub_laws.proofs.Prelude.{length, map, append_assoc, append-nil, length-append, and_parts, cond, one_step, steps_of, refusal}
use Rattle.hub_laws.proofs.Prelude.{Option, Some, option_map_or, take}
use Rattle.hub_laws.proofs.Prelude.{Entry, Event, Channel, OpenCall, Value, State, Port, channel_at, buffer_of}
use Rattle.std.specs.Prelude.{Err, Ok, OnOk, Result}
use Rattle.std.specs.List.{AllByRecursion, list_all}
use Rattle.std.proofs.lemmas.List.{length-drop, take_all}
use Rattle.std.proofs.lemmas.List.Folds.{list_all-append}
use Rattle.hub_base.specs.Entry.{Step}
use Rattle.hub_base.specs.declared.counts.Look.{Look}
use Rattle.hub_base.specs.declared.entry.Step.TheVariants as step
use Rattle.hub_base.specs.Head.{AreOf, is_of}
use Rattle.hub_base.specs.Notation.{close, exit, make}
use Rattle.hub_base.specs.Text.{Fits}
use Rattle.hub_laws.specs.Journals.{IsLegal}
use Rattle.hub_laws.proofs.Journals.{begins-law}
use Rattle.hub_core.specs.HubView.{HasRoom, HubView, Steps, opened_hub, state_of, places_after}
use Rattle.hub_core.specs.Looks.{counts_of, look_at}
use Rattle.hub_chapters.specs.Checkpoint.{call_again, checkpoint, exited, port_again, ports_again, send_again}
use Rattle.hub_chapters.proofs.Checkpoints.{checkpoint-law}
use Rattle.hub_chapters.proofs.Editions.{checkpoint-fits}
use Rattle.hub_cut.specs.Cut.{CanMake, Makes, hub_with, with_entries}
use Rattle.hub_cut.specs.Written.{port_entries, sent_entries}
use Rattle.hub_base.proofs.StepCounts.{steps-append}
use Rattle.hub_cut.proofs.Parts.{checkpoint_parts, checkpoint_within}

-- A list of entries that a hub takes, in two parts

all_parts : (h : HubView) (xs ys : List Entry) → AreOf h.terms.head.edition (xs ++ ys) →
    AreOf h.terms.head.edition xs × AreOf h.terms.head.edition ys
all_parts h xs ys fits =
    let of : Entry → Bool = λ e. is_of h.terms.head.edition e.step in
    and_parts (list_all of xs) (list_all of ys) (sym (list_all-append of xs ys) ∙ fits)

behind : (h : HubView) (xs ys : List Entry) → h.journal ++ (xs ++ ys) ≡ (h.journal ++ xs) ++ ys
behind h xs ys = sym (append_assoc h.journal xs ys)

pub can_first : (h : HubView) (xs ys : List Entry) → CanMake h (xs ++ ys) → CanMake h xs
can_first h xs ys can = record {
  fits = (all_parts h xs ys can.fits).0;
  legal = (begins-law h.terms.head (h.journal ++ xs) ys).legal (subst (IsLegal h.terms.head) (behind h xs ys) can.legal);
  few = omega (arith, can.few, ap steps_of (behind h xs ys), steps-append (h.journal ++ xs) ys);
  places = can.places;
}

can_next : (h : HubView) (xs ys : List Entry) → CanMake h (xs ++ ys) → CanMake (with_entries xs h) ys
can_next h xs ys can = record {
  fits = (all_parts h xs ys can.fits).1;
  legal = subst (IsLegal h.terms.head) (behind h xs ys) can.legal;
  few = subst (λ es. steps_of es ≤ h.terms.limit) (behind h xs ys) can.few;
  places = can.places;
}

-- once the first part is made, it takes the next
pub can_then : (h after : HubView) (xs ys : List Entry) → CanMake h (xs ++ ys) → Makes h xs after → CanMake after ys
can_then h after xs ys can m = subst (λ x. CanMake x ys) (sym m.made) (can_next h xs ys can)

all_joined : {A : Type 0} (P : A → Type 0) (xs ys : List A) → AllByRecursion P xs → AllByRecursion P ys → AllByRecursion P (xs ++ ys)
all_joined P [] ys a b = b
all_joined P (x ∷ xs) ys a b = (a.0, all_joined P xs ys a.1 b)

pub made_both : (a b c : HubView) (xs ys : List Entry) → Makes a xs b → Makes b ys c → Makes a (xs ++ ys) c
made_both a b c xs ys m n =
    let terms = ap (λ (h : HubView). h.terms) m.made in
    let fit : AllByRecursion (Fits a.terms.head.edition) ys = rw terms at n.fit in
    record {
      made = n.made ∙ ap (with_entries ys) m.made ∙ ap (λ es. hub_with a.terms es a.places) (append_assoc a.journal xs ys);
      fit = all_joined (Fits a.terms.head.edition) xs ys m.fit fit;
    }

pub made_none : (h : HubView) → Makes h [] h
made_none h = record { made = ap (λ es. hub_with h.terms es h.places) (sym (append-nil h.journal)); fit = tt }

-- its journal is longer by them
pub longer : (h : HubView) (es : List Entry) (new : HubView) → Makes h es new → length new.journal ≡ length h.journal + length es
longer h es new m = ap (λ (x : HubView). length x.journal) m.made ∙ length-append h.journal es

-- One entry

pub one_fits : (h : HubView) (e : Entry) → CanMake h (e ∷ []) → is_of h.terms.head.edition e.step ≡ true
one_fits h e can = (and_parts (is_of h.terms.head.edition e.step) true can.fits).0

pub one_room : (h : HubView) (e : Entry) → CanMake h (e ∷ []) → HasRoom h e
one_room h e can = λ step.
    let one : one_step e ≡ 1 = ap (λ b. cond b 0 1) step in
    omega (arith, can.few, steps-append h.journal (e ∷ []), one)

pub one_admitted : (h : HubView) (e : Entry) → CanMake h (e ∷ []) → refusal (state_of h) e.pid ≡ None
one_admitted h e can = (begins-law h.terms.head h.journal []).next e can.legal

-- no step is reserved where none was
none_reserved : (s : Step) → places_after s 0 ≡ 0
none_reserved step.Exit = refl
none_reserved other = refl

pub one_made : (h new : HubView) (e : Entry) (told : List Event) → CanMake h (e ∷ []) → Fits h.terms.head.edition e → Steps h e new told → Makes h (e ∷ []) new
one_made h new e told can fits s =
    let none : places_after e.step h.places ≡ h.places =
    ap (places_after e.step) can.places ∙ none_reserved e.step ∙ sym can.places in
    record { made = s.journal ∙ ap (hub_with h.terms (h.journal ++ e ∷ [])) none; fit = (fits, tt) }

-- what a success gives gives more
pub then_ok : {E P Q : Type 0} (r : Result (Unit {0}) E) → (P → Q) → OnOk r P → OnOk r Q
then_ok (Ok u) f p = f p
then_ok (Err e) f p = tt

-- Parts that grow one after the other

-- what a hub takes it takes as long as less has grown
can_before : (h : HubView) (part next : ℕ → List Entry) → ((n : ℕ) → part (n + 1) ≡ part n ++ next n) → (k n : ℕ) → CanMake h (part (n + k)) →
    CanMake h (part n)
can_before h part next more zero n can = subst (λ i. CanMake h (part i)) (let e : n + 0 ≡ n = omega arith in e) can
can_before h part next more (suc k) n can =
    let e : n + suc k ≡ n + 1 + k = omega arith in
    can_first h (part n) (next n)
    (subst (CanMake h) (more n) (can_before h part next more k (n + 1) (subst (λ i. CanMake h (part i)) e can)))

pub can_grow : (h now : HubView) (part next : ℕ → List Entry) → ((n : ℕ) → part (n + 1) ≡ part n ++ next n) → (n m : ℕ) → n < m →
    CanMake h (part m) → Makes h (part n) now → CanMake now (next n)
can_grow h now part next more n m below can made =
    let e : m ≡ n + 1 + (m - (n + 1)) = omega (arith, below) in
    can_then h now (part n) (next n)
    (subst (CanMake h) (more n) (can_before h part next more (m - (n + 1)) (n + 1) (subst (λ i. CanMake h (part i)) e can))) made

pub made_more : (h now new : HubView) (part next : ℕ → List Entry) → ((n : ℕ) → part (n + 1) ≡ part n ++ next n) → (n : ℕ) →
    Makes h (part n) now → Makes now (next n) new → Makes h (part (n + 1)) new
made_more h now new part next more n a b = subst (λ es. Makes h es new) (sym (more n)) (made_both h now new (part n) (next n) a b)

-- A port

-- nothing was sent yet
pub sent_none : (s : State) (p : Port) → sent_entries s p 0 ≡ []
sent_none s p = by (channel_at s p)
  where
    by : (o : Option Channel) → option_map_or (λ c. map (send_again p.0) (take 0 (buffer_of c))) o [] ≡ []
    by None = refl
    by (Some c) = refl

buffer_length : (c : Channel) → length (buffer_of c) ≡ length c.sent - c.received
buffer_length c = length-drop c.received c.sent

-- what a look at the port shows makes it
pub port_is : (s : State) (p : Port) (look : Look) → Some look ≡ look_at s p →
    port_entries s p ≡ make 0 look.cap ∷ sent_entries s p look.counts.len ++ cond look.counts.closed (close 0 p.0 ∷ []) []
port_is s p look there = by (channel_at s p) refl
  where
    by : (o : Option Channel) → channel_at s p ≡ o →
        port_entries s p ≡ make 0 look.cap ∷ sent_entries s p look.counts.len ++ cond look.counts.closed (close 0 p.0 ∷ []) []
    by None is = absurd (let none : Some look ≡ None = rw is at there in let x : ⊥ = cc in x)
    by (Some c) is =
        let shown : Some look ≡ Some (record { cap = c.cap; counts = counts_of c }) = rw is at there in
        let same : look ≡ record { cap = c.cap; counts = counts_of c } = cc in
        let all : take (length c.sent - c.received) (buffer_of c) ≡ buffer_of c =
        take_all (length c.sent - c.received) (buffer_of c) (omega (arith, buffer_length c)) in
        rw (is, same, all) refl

-- The checkpoint

-- a hub at which nothing has happened takes the checkpoint of one with the same terms
pub can_checkpoint : (hub : HubView) → AreOf hub.terms.head.edition hub.journal → IsLegal hub.terms.head hub.journal → steps_of hub.journal ≤ hub.terms.limit →
    CanMake (opened_hub hub.terms) (checkpoint (state_of hub))
can_checkpoint hub fits legal few = record {
  fits = checkpoint-fits hub.terms.head hub.journal fits;
  legal = (checkpoint-law hub.terms.head hub.journal).legal;
  few = checkpoint_within hub legal few;
  places = refl;
}

-- as one that is new
pub can_anew : (hub base : HubView) → base ≡ opened_hub hub.terms → AreOf hub.terms.head.edition hub.journal → IsLegal hub.terms.head hub.journal
    → steps_of hub.journal ≤ hub.terms.limit → CanMake base (checkpoint (state_of hub))
can_anew hub base new fits legal few = rw new (can_checkpoint hub fits legal few)

-- How many of its steps are no exits

sends_all : (n : ℕ) (vs : List Value) → steps_of (map (send_again n) vs) ≡ length (map (send_again n) vs)
sends_all n [] = refl
sends_all n (v ∷ vs) = omega (arith, sends_all n vs)

close_all : (n : ℕ) (b : Bool) → steps_of (cond b (close 0 n ∷ []) []) ≡ length (cond b (close 0 n ∷ []) [])
close_all n true = refl
close_all n false = refl

port_all : (n : ℕ) (c : Channel) → steps_of (port_again n c) ≡ length (port_again n c)
port_all n c =
    let sends : List Entry = map (send_again n) (buffer_of c) in
    let closes : List Entry = cond c.closed (close 0 n ∷ []) [] in
    omega (arith, steps-append sends closes, length-append sends closes, sends_all n (buffer_of c), close_all n c.closed)

ports_all : (n : ℕ) (cs : List Channel) → steps_of (ports_again n cs) ≡ length (ports_again n cs)
ports_all n [] = refl
ports_all n (c ∷ cs) =
    let one : List Entry = port_again n c in
    let more : List Entry = ports_again (n + 1) cs in
    omega (arith, steps-append one more, length-append one more, port_all n c, ports_all (n + 1) cs)

exits_none : (qs : List ℕ) → steps_of (map exit qs) ≡ 0
exits_none [] = refl
exits_none (q ∷ qs) = omega (arith, exits_none qs)

calls_all : (calls : List OpenCall) → steps_of (map call_again calls) ≡ length (map call_again calls)
calls_all [] = refl
calls_all (c ∷ cs) = omega (arith, calls_all cs)

-- all but the exits
pub checkpoint_count : (s : State) →
    steps_of (checkpoint s) ≡ length (ports_again 1 s.channels) + length (map call_again s.parked)
checkpoint_count s =
    omega (arith, checkpoint_parts steps_of steps-append s, ports_all 1 s.channels, exits_none (exited s), calls_all s.parked)
