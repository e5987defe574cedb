-- What the deeds of a step add to what was sent and to what was received.
use Rattle.hub_laws.proofs.Prelude.{arith, ◌≡◌, false, List, [], ◌∷◌, ◌++◌, refl, ap, sym, Option, Some, None, ℕ, ◌==◌, append-nil, ◌+◌, ◌≤◌, length, take}
use Rattle.hub_laws.proofs.Prelude.{take-suc, take-append-le, get_or_from_slice_get, slice_get_within, AllByRecursion, cons_option, option_map_or}
use Rattle.hub_laws.proofs.Prelude.{slice_get}
use Rattle.hub_laws.proofs.Prelude.{Case, Send, Recv, Event, Outcome, Sent, Got, What, Pid, Port, Value, port_of, Channel, after_receive, after_send}
use Rattle.hub_laws.proofs.Prelude.{closing_outcome, next_value, of_what, got_on, sent_on, received_from}
use Rattle.hub_base.specs.declared.event.What.TheVariants as what
use Rattle.hub_laws.proofs.Deeds.{Deed, deed_of, told, picks, at, IsClosing, Moved, Does, DoesAt, stays_at, makes_at, moves_at, fresh}
use Rattle.hub_laws.proofs.Does.{does-at}

-- a reading of events is a reading of deeds

pick_one : {A : Type 0} (pick : Option Case → Outcome → Option A) (k : Option Case) (o : Outcome) (rest : List A) (rest' : List Deed)
    → pick None o ≡ None → rest ≡ picks pick rest' → cons_option (pick k o) rest ≡ picks pick (cons_option (deed_of k o) rest')
pick_one pick None o rest rest' none e = rw none e
pick_one pick (Some k) o rest rest' none e = ap (λ r. cons_option (pick (Some k) o) r) e

pick_what : {A : Type 0} (pick : Option Case → Outcome → Option A) (cases : List Case) (w : What) (rest : List A) (rest' : List Deed)
    → ((o : Outcome) → pick None o ≡ None) → rest ≡ picks pick rest'
    → cons_option (of_what pick cases w) rest ≡ picks pick (cons_option (of_what deed_of cases w) rest')
pick_what pick cases (what.Fired i o) rest rest' none e = pick_one pick (slice_get cases i) o rest rest' (none o) e
pick_what pick cases w rest rest' none e = e

pub told-picks : {A : Type 0} (pick : Option Case → Outcome → Option A) (L : Pid → List Case) (events : List Event)
    → ((o : Outcome) → pick None o ≡ None) → told pick L events ≡ picks pick (told deed_of L events)
told-picks pick L [] none = refl
told-picks pick L (e ∷ es) none = pick_what pick (L e.pid) e.what (told pick L es) (told deed_of L es) none (told-picks pick L es none)

-- what a reading of port p says of the deeds on other ports
pub others-none : {A : Type 0} (pick : Option Case → Outcome → Option A) (p : Port) (deeds : List Deed) →
    ((k : Case) (o : Outcome) → ((port_of k).0 == p.0) ≡ false → pick (Some k) o ≡ None) →
    AllByRecursion (λ x. ((port_of x.case).0 == p.0) ≡ false) deeds → picks pick deeds ≡ []
others-none pick p [] none off = refl
others-none pick p (d ∷ ds) none off = rw (none d.case d.outcome off.0) (others-none pick p ds none off.1)

-- and of those that a close brings
pub closing-none : {A : Type 0} (pick : Option Case → Outcome → Option A) (p : Port) (deeds : List Deed) →
    ((k : Case) → pick (Some k) (closing_outcome k) ≡ None) → AllByRecursion (IsClosing p) deeds → picks pick deeds ≡ []
closing-none pick p [] none all = refl
closing-none pick p (d ∷ ds) none all = rw (all.0.outcome, none d.case) (closing-none pick p ds none all.1)

-- A list that the channel of a port gives, and that grows by what a reading picks

abbrev pub total : {A : Type 0} → (Channel → List A) → List Channel → Port → List A
total f cs p = option_map_or f (at cs p) []

pub total-does : {A : Type 0} (f : Channel → List A) (pick : Option Case → Outcome → Option A) (cs ts : List Channel)
    (again : Option Port) (deeds : List Deed) (p : Port) → DoesAt cs ts again deeds p → ((cap : ℕ) → f (fresh cap) ≡ []) →
    ((k : Case) (o : Outcome) → ((port_of k).0 == p.0) ≡ false → pick (Some k) o ≡ None) →
    ((c d : Channel) → at cs p ≡ Some c → Moved p c d again deeds → f d ≡ f c ++ picks pick deeds) →
    total f ts p ≡ total f cs p ++ picks pick deeds
total-does f pick cs ts again deeds p (stays_at same off) empty none here = rw (same, others-none pick p deeds none off) (sym (append-nil (total f cs p)))
total-does f pick cs ts again deeds p (makes_at cap before after e) empty none here = rw (before, after, e) (empty cap)
total-does f pick cs ts again deeds p (moves_at c d old new m) empty none here = rw (old, new) (here c d old m)

-- Sent

sent_none : (p : Port) (k : Case) (o : Outcome) → ((port_of k).0 == p.0) ≡ false → sent_on p (Some k) o ≡ None
sent_none p (Send q v) Sent e = rw e refl
sent_none p k o e = refl

sent_here : (p : Port) (c d : Channel) (again : Option Port) (deeds : List Deed) → Moved p c d again deeds → d.sent ≡ c.sent ++ picks (sent_on p) deeds
sent_here p c d again deeds x4 = grind (arith, append-nil, closing-none)

pub sent-does : (cs ts : List Channel) (named again : Option Port) (deeds : List Deed) (p : Port) → Does cs ts named again deeds →
    total (λ c. c.sent) ts p ≡ total (λ c. c.sent) cs p ++ picks (sent_on p) deeds
sent-does cs ts named again deeds p does =
    total-does (λ c. c.sent) (sent_on p) cs ts again deeds p (does-at cs ts named again deeds does p) (λ cap. refl) (sent_none p)
    (λ c d e m. sent_here p c d again deeds m)

-- Received

pub got_none : (p : Port) (k : Case) (o : Outcome) → ((port_of k).0 == p.0) ≡ false → got_on p (Some k) o ≡ None
got_none p (Recv q) (Got v) e = rw e refl
got_none p k o e = refl

pub got_closing : (p : Port) (k : Case) → got_on p (Some k) (closing_outcome k) ≡ None
got_closing p (Send q v) = refl
got_closing p (Recv q) = refl

pub take_next : {A : Type 0} (xs : List A) (i : ℕ) (w : A) → slice_get xs i ≡ Some w → take (i + 1) xs ≡ take i xs ++ w ∷ []
take_next xs i w e = grind (arith, take-suc xs i w (slice_get_within xs i w e), get_or_from_slice_get xs i w w e)

pub through : (v w : Value) (c d : Channel) → c.received ≤ length c.sent → next_value (after_send v c) ≡ Some w
    → d ≡ after_receive (after_send v c) → received_from d ≡ received_from c ++ w ∷ []
through v w c d fits next is = grind (arith, take_next (c.sent ++ v ∷ []) c.received w next, take-append-le c.received c.sent (v ∷ []) fits)

got_here : (p : Port) (c d : Channel) (again : Option Port) (deeds : List Deed) → c.received ≤ length c.sent → Moved p c d again deeds
    → received_from d ≡ received_from c ++ picks (got_on p) deeds
got_here p c d again deeds fits x5 = grind (arith, take-append-le, append-nil, through, take_next, closing-none)

pub got-does : (cs ts : List Channel) (named again : Option Port) (deeds : List Deed) (p : Port) →
    ((c : Channel) → at cs p ≡ Some c → c.received ≤ length c.sent) → Does cs ts named again deeds →
    total (λ c. take c.received c.sent) ts p ≡ total (λ c. take c.received c.sent) cs p ++ picks (got_on p) deeds
got-does cs ts named again deeds p fits does =
    total-does received_from (got_on p) cs ts again deeds p (does-at cs ts named again deeds does p) (λ cap. refl) (got_none p)
    (λ c d e m. got_here p c d again deeds (fits c e) m)
