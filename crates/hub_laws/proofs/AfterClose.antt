-- After a close no case on the port is sent, and receives drain the buffer.
use Rattle.hub_laws.proofs.Prelude.{arith, ◌≡◌, true, false, List, [], ◌∷◌, ◌++◌, refl, ap, ◌∙◌, sym, subst, Option, Some, None, ℕ, ◌==◌, suc, drop}
use Rattle.hub_laws.proofs.Prelude.{append-nil, append_assoc, add-one, inl, inr, drop-cons, drop_all, slice_get_cases, get_or_from_slice_get}
use Rattle.hub_laws.proofs.Prelude.{slice_get_within}
use Rattle.hub_laws.proofs.Prelude.{slice_get, Case, Send, Recv, Entry, Close, Outcome, Sent, Fault, Head, Pid, Port, port_of, moves, state_after, state}
use Rattle.hub_laws.proofs.Prelude.{State, Channel, channel_at, opening, buffer_of, Change, after_receive, shut, stalls, closes, close_fault, is_unmade}
use Rattle.hub_laws.proofs.Prelude.{fault_of, answers, Turned, turns_after, values_from, close_by, sent_at, heard, Drains, answers_done, StaysClosed}
use Rattle.hub_laws.proofs.Prelude.{port_touched, IsSound, is_port, opened, opens_again, or_parts, or_from, and_parts, AreOf, has_lives, is_of}
use Rattle.hub_laws.proofs.Prelude.{Edition, Step, Event, Make, Call, Exit, Cancel, Start, Reopen}
use Rattle.std.specs.List.{list_all}
use Rattle.hub_base.specs.declared.fault.Fault.TheVariants as fault
use Rattle.hub_laws.proofs.Branches.{by-stall}
use Rattle.hub_laws.proofs.Deeds.{Knows, Deed, deed_of, told, picks, at, Moved, buffers, hands, fetches, gives, drains, refuses, shuts, opens, DoesAt}
use Rattle.hub_laws.proofs.Deeds.{stays_at}
use Rattle.hub_laws.proofs.Deeds.{makes_at, moves_at}
use Rattle.hub_laws.proofs.Calls.{same_number}
use Rattle.hub_laws.proofs.Ready.{none_false}
use Rattle.hub_laws.proofs.Kept.{sound-opening}
use Rattle.hub_laws.proofs.Rules.{moves-sound, state-sound}
use Rattle.hub_laws.proofs.Does.{wrote-set, does-at}
use Rattle.hub_laws.proofs.Totals.{told-picks, others-none}
use Rattle.hub_laws.proofs.Turns.{in_force, moves-turn}
use Rattle.hub_laws.proofs.Longer.{state-entry}

sent_none : (p : Port) (k : Case) (o : Outcome) → ((port_of k).0 == p.0) ≡ false → sent_at p (Some k) o ≡ None
sent_none p k Sent e = rw e refl
sent_none p k o e = refl

heard_none : (p : Port) (k : Case) (o : Outcome) → ((port_of k).0 == p.0) ≡ false → heard p (Some k) o ≡ None
heard_none p (Recv q) o e = rw e refl
heard_none p (Send q v) o e = refl

drop_next : {A : Type 0} (xs : List A) (i : ℕ) (w : A) → slice_get xs i ≡ Some w → drop i xs ≡ w ∷ drop (suc i) xs
drop_next xs i w e = drop-cons xs i w (slice_get_within xs i w e) ∙ ap (λ y. y ∷ drop (suc i) xs) (get_or_from_slice_get xs i w w e)

drop_end : {A : Type 0} (xs : List A) (i : ℕ) → slice_get xs i ≡ None → drop i xs ≡ []
drop_end xs i e = elim (slice_get_cases xs i).1 [ inl l ↦ absurd (let h = l.2 in let g : ⊥ = cc in g) | inr r ↦ drop_all i xs r.0 ]

-- One step, where the channel of p is closed

pub record Stays (p : Port) (c : Channel) (ts : List Channel) (deeds : List Deed) : Type 0 where
  pub after : Channel
  pub stands : at ts p ≡ Some after
  pub closed : after.closed ≡ true
  pub none : picks (sent_at p) deeds ≡ []
  pub drains : (os : List Outcome) → Drains (buffer_of after) os → Drains (buffer_of c) (picks (heard p) deeds ++ os)

stays_same : (p : Port) (c : Channel) (ts : List Channel) (deeds : List Deed) → at ts p ≡ Some c → c.closed ≡ true
    → picks (sent_at p) deeds ≡ [] → picks (heard p) deeds ≡ [] → Stays p c ts deeds
stays_same p c ts deeds new over none silent = record { after = c; stands = new; closed = over; none = none; drains = λ os h. rw silent h }

stays_moved : (p : Port) (c d : Channel) (ts : List Channel) (again : Option Port) (deeds : List Deed) → at ts p ≡ Some d → c.closed ≡ true →
    is_port again p ≡ false → Moved p c d again deeds → Stays p c ts deeds
stays_moved p c d ts again deeds new over shut_still (buffers v live is e) = cc
stays_moved p c d ts again deeds new over shut_still (hands v w live next is e) = cc
stays_moved p c d ts again deeds new over shut_still (fetches v w live next is e) = cc
stays_moved p c d ts again deeds new over shut_still (gives w next is e) = record {
  after = after_receive c;
  stands = new ∙ ap (λ x. Some x) is;
  closed = over;
  none = rw e refl;
  drains = λ os h. rw (e, same_number p.0, drop_next c.sent c.received w next)
      (refl, (let k : Drains (drop (suc c.received) c.sent) os = rw add-one at h in k));
}
stays_moved p c d ts again deeds new over shut_still (drains next is e) = grind (arith, drop_end)
stays_moved p c d ts again deeds new over shut_still (refuses v closed is e) = stays_same p c ts deeds (new ∙ ap (λ x. Some x) is) over (rw e refl) (rw e refl)
stays_moved p c d ts again deeds new over shut_still (opens cap names closed drained is e) =
    let h : (p.0 == p.0) ≡ false = rw names at shut_still in
    let g = same_number p.0 in
    cc
stays_moved p c d ts again deeds new over shut_still (shuts live is all) = cc

stays-does : (p : Port) (c : Channel) (cs ts : List Channel) (again : Option Port) (deeds : List Deed) → at cs p ≡ Some c → c.closed ≡ true →
    is_port again p ≡ false → DoesAt cs ts again deeds p → Stays p c ts deeds
stays-does p c cs ts again deeds old over shut_still (stays_at same off) =
    stays_same p c ts deeds (same ∙ old) over (others-none (sent_at p) p deeds (sent_none p) off) (others-none (heard p) p deeds (heard_none p) off)
stays-does p c cs ts again deeds old over shut_still (makes_at cap before after e) = absurd (let g : ⊥ = cc in g)
stays-does p c cs ts again deeds old over shut_still (moves_at x d before new m) =
    let one : x ≡ c = cc in
    stays_moved p c d ts again deeds new over shut_still (subst (λ (y : Channel). Moved p y d again deeds) one m)

-- A run from a state where the channel of p is closed

pub record Later (p : Port) (c : Channel) (ts : List Turned) (s : State) (es : List Entry) : Type 0 where
  pub none : values_from (sent_at p) ts (turns_after s es) ≡ []
  pub drains : Drains (buffer_of c) (values_from (heard p) ts (turns_after s es))

later : (p : Port) (c : Channel) (ts : List Turned) (s : State) (es : List Entry) → IsSound s → Knows (in_force ts) s.parked
    → channel_at s p ≡ Some c → c.closed ≡ true → opens_again p (turns_after s es) ≡ false → Later p c ts s es
later p c ts s [] sound knows old over shut_still = record { none = refl; drains = tt }
later p c ts s (e ∷ es) sound knows old over shut_still =
    let t : Turned = record { entry = e; events = (moves s e).events } in
    let laws = moves-turn s e ts sound knows in
    let deeds : List Deed = told deed_of (in_force (ts ++ t ∷ [])) (moves s e).events in
    let named : Option Port = port_touched e.step (moves s e).events in
    let again : Option Port = opened e.step (moves s e).events in
    let shut_on = or_parts (is_port again p) (opens_again p (turns_after (moves s e).state es)) shut_still in
    let stays : Stays p c (moves s e).state.channels deeds =
    stays-does p c s.channels (moves s e).state.channels again deeds old over shut_on.0
    (does-at s.channels (moves s e).state.channels named again deeds laws.does p) in
    let rest = later p stays.after (ts ++ t ∷ []) (moves s e).state es (moves-sound s e sound) laws.knows stays.stands stays.closed shut_on.1 in
    record {
      none = rw (told-picks (sent_at p) (in_force (ts ++ t ∷ [])) t.events (λ o. no_case_sent p o), stays.none) rest.none;
      drains = rw (told-picks (heard p) (in_force (ts ++ t ∷ [])) t.events (λ o. refl))
          (stays.drains (values_from (heard p) (ts ++ t ∷ []) (turns_after (moves s e).state es)) rest.drains);
    }
  where
    no_case_sent : (p : Port) (o : Outcome) → sent_at p None o ≡ None
    no_case_sent p o = refl

-- The step that closes it

abbrev ClosedIn : State → Port → Type 0
ClosedIn s p = (c : Channel) × (channel_at s p ≡ Some c) × (c.closed ≡ true)

closed_by : (s : State) (pid : Pid) (p : Port) (o : Option Channel) → o ≡ channel_at s p → close_fault o ≡ None →
    ClosedIn (stalls (closes s pid p o)).state p
closed_by s pid p None is h = cc
closed_by s pid p (Some c) is h =
    let there : ClosedIn (closes s pid p (Some c)).state p = (shut c, (wrote-set s p c (shut c) (sym is)).new, refl) in
    by-stall (λ (x : Change). ClosedIn x.state p) (closes s pid p (Some c)) there there

closed_answers : (s : State) (pid : Pid) (p : Port) (o : Option Fault) → o ≡ fault_of s (Close p) →
    answers_done (answers s (close_by pid p) o).events ≡ true → ClosedIn (answers s (close_by pid p) o).state p
closed_answers s pid p None is h = closed_by s pid p (channel_at s p) refl (none_false (is_unmade s p) fault.NoPort (close_fault (channel_at s p)) (sym is)).1
closed_answers s pid p (Some f) is h = cc

-- a close that was answered `Done` leaves the channel closed
pub close-closes : (s : State) (pid : Pid) (p : Port) → answers_done (moves s (close_by pid p)).events ≡ true → ClosedIn (moves s (close_by pid p)).state p
close-closes s pid p = grind (arith, closed_answers)

-- Runs

knows_after : (s : State) (ts : List Turned) (es : List Entry) → IsSound s → Knows (in_force ts) s.parked
    → Knows (in_force (ts ++ turns_after s es)) (state_after s es).parked
knows_after s ts [] sound knows = rw append-nil knows
knows_after s ts (e ∷ es) sound knows =
    let t : Turned = record { entry = e; events = (moves s e).events } in
    let h = knows_after (moves s e).state (ts ++ t ∷ []) es (moves-sound s e sound) (moves-turn s e ts sound knows).knows in
    rw append_assoc at h

pub state-knows : (head : Head) (es : List Entry) → Knows (in_force (turns_after (opening head) es)) (state head es).parked
state-knows head es = knows_after (opening head) [] es (sound-opening head) tt

pub after_close-law : (head : Head) (es fs : List Entry) (pid : Pid) (p : Port) →
    answers_done (moves (state head es) (close_by pid p)).events ≡ true →
    opens_again p (turns_after (state head (es ++ close_by pid p ∷ [])) fs) ≡ false → StaysClosed head (es ++ close_by pid p ∷ []) fs p
after_close-law head es fs pid p h shut_still =
    let e : Entry = close_by pid p in
    let all : List Entry = es ++ e ∷ [] in
    let c = close-closes (state head es) pid p h in
    let there : channel_at (state head all) p ≡ Some c.0 = ap (λ (s : State). channel_at s p) (state-entry head es e) ∙ c.1 in
    let l = later p c.0 (turns_after (opening head) all) (state head all) fs (state-sound head all) (state-knows head all) there c.2 shut_still in
    record { left = c.0; made = there; closed = c.2; sent = l.none; heard = l.drains }

-- in an edition without reopens no port is opened again

no_reopen : (edition : Edition) (step : Step) (events : List Event) (p : Port) → has_lives edition ≡ false → is_of edition step ≡ true →
    is_port (opened step events) p ≡ false
no_reopen edition step [] p old h = refl
no_reopen edition (Reopen q cap) (x ∷ xs) p old h = cc
no_reopen edition (Make cap) (x ∷ xs) p old h = refl
no_reopen edition (Call cases default word) (x ∷ xs) p old h = refl
no_reopen edition (Close q) (x ∷ xs) p old h = refl
no_reopen edition Exit (x ∷ xs) p old h = refl
no_reopen edition (Cancel q) (x ∷ xs) p old h = refl
no_reopen edition (Start q) (x ∷ xs) p old h = refl

pub never-opened : (edition : Edition) (p : Port) (s : State) (fs : List Entry) → has_lives edition ≡ false → AreOf edition fs →
    opens_again p (turns_after s fs) ≡ false
never-opened edition p s [] old of_edition = refl
never-opened edition p s (e ∷ es) old of_edition =
    let both = and_parts (is_of edition e.step) (list_all (λ x. is_of edition x.step) es) of_edition in
    or_from (is_port (opened e.step (moves s e).events) p) (opens_again p (turns_after (moves s e).state es))
    (no_reopen edition e.step (moves s e).events p old both.0) (never-opened edition p (moves s e).state es old both.1)
