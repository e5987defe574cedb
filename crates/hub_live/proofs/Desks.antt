-- The hub's seat: what a meeting with the seat of a process, and a step, leave in both.
use Rattle.std.proofs.Common.{◌≡◌, ℕ, suc, ◌+◌, ◌<◌, ◌≤◌, Bool, true, false, cond, List, [], ◌∷◌, ◌++◌, refl, sym, ap, ◌∙◌, subst, arith, Some, None, add-one}
use Rattle.std.specs.Prelude.{IsSome}
use Rattle.hub_laws.specs.OnePort.{port_changed_by}
use Rattle.hub_laws.proofs.Journals.{begins-law}
use Rattle.hub_laws.proofs.Replies.{own-mine}
use Rattle.hub_live.specs.Moves.{IsNext}
use Rattle.hub_live.specs.Seated.{IsDesk}
use Rattle.hub_live.specs.Prelude.{IsPrefix, Seat, Pid, Port, Fault, Entry, Event, MOST_PORTS, refusal, is_waiting, state, is_exit, steps_of, IsLegal, changed}
use Rattle.hub_live.specs.Prelude.{port_changed, number_of, own, HubView, Steps, Refuses, state_of, Terms, View, LockedView, Serves, IsReplyTo, mark, mark_at}
use Rattle.hub_live.specs.Prelude.{port_numbered, MarksOne, IsOther, Name, IsHistory, Sees, SeesBoth, grown, with_joined, parted, given_back, IsToken}
use Rattle.hub_live.specs.Prelude.{IsSingle, SeatView, IsFree, own_of, IsAlone, IsHub, seat_of, Shows}
use Rattle.hub_base.proofs.Lists.{prefix_trans}
use Rattle.hub_base.proofs.StepCounts.{steps-snoc}
use Rattle.hub_live.proofs.Refusals.{shows}
use Rattle.hub_live.proofs.Laters.{IsSeatOf, Follows, asked_nothing}
use Rattle.hub_live.proofs.Marks.{marks_one, mark_other, changed-few}

-- ---- a meeting with the hub's seat

-- the hub's seat is joined to no other
pub desk_single : {name : Name} {l : LockedView} {hub : Seat (Unit {0}) View} → IsDesk name l hub → IsSingle name hub
desk_single d = record { is = d.token; number = subst IsSome (sym d.number) refl; joined = d.joined; terms = d.terms }

-- it stays the hub's seat where it has seen the journal
pub desk_seen : {name : Name} {l l' : LockedView} {hub after : Seat (Unit {0}) View} → IsDesk name l hub → l'.hub ≡ l.hub → IsToken name after
    → Sees hub.me.0 after.me.0 → IsDesk name l' after
desk_seen {name} d same token s = record {
  token = token;
  number = s.number ∙ d.number;
  joined = s.joined ∙ d.joined;
  terms = s.terms ∙ d.terms;
  seen = sym (s.own 0 d.number).knows ∙ d.seen ∙ ap (λ (h : HubView). h.journal) (sym same);
  hub = subst (IsHub name.terms) (sym same) d.hub;
}

-- a reply, wherever its terms, its process and the journal are written so
pub reply_there : {t t' : Terms} {p p' : Pid} {es es' : List Entry} {x : Event} → t ≡ t' → p ≡ p' → es ≡ es' → IsReplyTo t.head p.0 es x
    → IsReplyTo t'.head p'.0 es' x
reply_there {x = x} t p es r =
    subst (λ (y : Terms × Pid × List Entry). IsReplyTo y.0.head y.1.0 y.2 x) (λ i. (t i, p i, es i)) r

-- why an entry is refused, as its seat has then seen
pub refusal_seen : {name : Name} {l : LockedView} {hub mine : Seat (Unit {0}) View} {s : SeatView} {pid : Pid} (back : Seat (Unit {0}) View) (e : Entry)
    (f : Fault) → IsDesk name l hub → IsSeatOf name s pid mine → Follows s (seat_of pid (Some back)) → back.me.0.seen ≡ l.hub.journal → s.hub ≡ name
    → s.pid ≡ e.pid → IsFree s → Refuses l.hub e f → Shows name.terms e back.me.0.seen f
refusal_seen {name} {l} {hub} {mine} {s} {pid} back e f d o k seen named same free refused =
    let is = d.hub in
    let at : pid ≡ e.pid = ap (λ (x : SeatView). x.pid) o.shows ∙ same in
    let below : e.pid.0 < name.terms.head.procs =
    subst (λ (x : Pid × Terms). x.0.0 < x.1.head.procs) (λ i. (at i, o.single.terms i)) o.alone.below in
    let idle : is_waiting (state l.hub.terms.head l.hub.journal) e.pid.0 ≡ false =
    (λ i. is_waiting (state ((is.terms ∙ ap (λ (n : Name). n.terms) (sym named)) i).head (sym seen i)) (sym same i).0) ∙ (asked_nothing k free).free in
    subst (λ (es : List Entry). Shows name.terms e es f) (sym seen) (shows name.terms l.hub e f is below idle refused)

-- ---- the hub after a step

within_after : (b : Bool) (count limit : ℕ) → (b ≡ false → count < limit) → count ≤ limit → count + cond b 0 1 ≤ limit
within_after true count limit room was = omega arith
within_after false count limit room was = omega (arith, room refl)

pub hub_steps : (t : Terms) (old new : HubView) (e : Entry) (told : List Event) → IsHub t old → Steps old e new told → IsHub t new
hub_steps t old new e told is s =
    let terms : new.terms ≡ t = ap (λ (h : HubView). h.terms) s.journal ∙ is.terms in
    let journal : new.journal ≡ old.journal ++ e ∷ [] = ap (λ (h : HubView). h.journal) s.journal in
    let admitted : refusal (state t.head old.journal) e.pid ≡ None =
    subst (λ (t : Terms). refusal (state t.head old.journal) e.pid ≡ None) is.terms s.admitted in
    let legal : IsLegal t.head (old.journal ++ e ∷ []) = (begins-law t.head old.journal []).goes_on e is.history.legal admitted in
    let room : is_exit e.step ≡ false → steps_of old.journal < t.limit = λ h. subst (λ (t : Terms). steps_of old.journal < t.limit) is.terms (s.room h) in
    let within : steps_of (old.journal ++ e ∷ []) ≤ t.limit =
    subst (λ (n : ℕ). n ≤ t.limit) (sym (steps-snoc old.journal e)) (within_after (is_exit e.step) (steps_of old.journal) t.limit room is.within) in
    record {
      terms = terms;
      most = is.most;
      history = subst (IsHistory t) (sym journal) (record { legal = legal; few = omega (arith, within, is.most) });
      within = subst (λ (es : List Entry). steps_of es ≤ t.limit) (sym journal) within;
    }

-- ---- a step by the joined seat

-- the hub's view, joined to that of a process, once it has seen the journal
record IsJoined (t : Terms) (journal : List Entry) (pid : Pid) (before : List Entry) (w : View) : Type 0 where
  pub whole : w.seen ≡ journal
  pub both : w.joined_seen ≡ journal
  pub number : w.number ≡ Some 0
  pub joined : w.joined ≡ Some (pid.0 + 1)
  pub terms : w.terms ≡ t
  pub begins : IsPrefix before journal
  pub own : own pid.0 journal ≡ own pid.0 before

joined_desk : {name : Name} {l : LockedView} {hub mine : Seat (Unit {0}) View} {pid : Pid} {w : View} → IsDesk name l hub → IsAlone pid mine
    → SeesBoth (with_joined hub.me.0 mine.me.0) w → IsJoined name.terms l.hub.journal pid mine.me.0.seen w
joined_desk {l = l} {mine = mine} {pid = pid} {w = w} d m j =
    let whole : w.seen ≡ l.hub.journal = sym (j.sees.own 0 d.number).knows ∙ d.seen in
    let theirs = j.others (suc pid.0) (m.number ∙ ap Some (add-one pid.0)) in
    record {
      whole = whole;
      both = j.both ∙ whole;
      number = j.sees.number ∙ d.number;
      joined = j.sees.joined ∙ m.number;
      terms = j.sees.terms ∙ d.terms;
      begins = subst (λ (es : List Entry). IsPrefix mine.me.0.seen es) whole theirs.begins;
      own = subst (λ (es : List Entry). own pid.0 es ≡ own pid.0 mine.me.0.seen) whole theirs.knows;
    }

-- what a step leaves in the hub's seat and in the one that it gives back
pub record Stepped
    (name : Name) (s : SeatView) (e : Entry) (l : LockedView) (hub : Seat (Unit {0}) View) (pid : Pid)
    (back : Seat (Unit {0}) View) : Type 0 where
  pub desk : IsDesk name l hub
  pub alone : IsAlone pid back
  pub seen : back.me.0.seen ≡ l.hub.journal
  pub history : IsHistory name.terms back.me.0.seen
  pub begins : IsPrefix s.seen back.me.0.seen
  pub own : own pid.0 back.me.0.seen ≡ own_of s ++ e ∷ []

pub stepped : {name : Name} {l l' : LockedView} {hub hub' mine back : Seat (Unit {0}) View} {s : SeatView} {pid : Pid} {u v : View} {e : Entry}
    {x : Event} → IsDesk name l hub → IsSeatOf name s pid mine → s.pid ≡ e.pid → SeesBoth (with_joined hub.me.0 mine.me.0) u → Serves l e l' x
    → v ≡ grown u e → IsToken name hub' → hub'.me.0 ≡ parted v
    → IsToken name back → back.me.0 ≡ given_back v → Stepped name s e l' hub' pid back
stepped {name} {l} {l'} {hub} {hub'} {mine} {back} {s} {pid} {u} {v} {e} {x} d o same sees served view token left given right =
    let j = joined_desk d o.alone sees in
    let after = hub_steps name.terms l.hub l'.hub e (x ∷ served.ended) d.hub served.step in
    let journal : l'.hub.journal ≡ l.hub.journal ++ e ∷ [] = ap (λ (h : HubView). h.journal) served.step.journal in
    let hm : hub'.me.0 ≡ parted (grown u e) = left ∙ ap parted view in
    let bm : back.me.0 ≡ given_back (grown u e) = right ∙ ap given_back view in
    let whole : u.seen ++ e ∷ [] ≡ l'.hub.journal = ap (λ (es : List Entry). es ++ e ∷ []) j.whole ∙ sym journal in
    let seen : back.me.0.seen ≡ l'.hub.journal = ap (λ (w : View). w.seen) bm ∙ whole in
    let terms : back.me.0.terms ≡ name.terms = ap (λ (w : View). w.terms) bm ∙ j.terms in
    let history : IsHistory name.terms back.me.0.seen = subst (IsHistory name.terms) (sym seen) after.history in
    let at : pid ≡ e.pid = ap (λ (y : SeatView). y.pid) o.shows ∙ same in
    subst (λ (y : SeatView). Stepped name y e l' hub' pid back) o.shows (record {
      desk = record {
        token = token;
        number = ap (λ (w : View). w.number) hm ∙ j.number;
        joined = ap (λ (w : View). w.joined) hm;
        terms = ap (λ (w : View). w.terms) hm ∙ j.terms;
        seen = ap (λ (w : View). w.seen) hm ∙ whole;
        hub = after;
      };
      alone = record {
        free = given.free;
        number = ap (λ (w : View). w.number) bm ∙ j.joined;
        joined = ap (λ (w : View). w.joined) bm;
        below = subst (λ (t : Terms). pid.0 < t.head.procs) (o.single.terms ∙ sym terms) o.alone.below;
        history = subst (λ (t : Terms). IsHistory t back.me.0.seen) (sym terms) history;
      };
      seen = seen;
      history = history;
      begins = subst (IsPrefix mine.me.0.seen) (sym (seen ∙ journal))
          (prefix_trans mine.me.0.seen l.hub.journal (l.hub.journal ++ e ∷ []) j.begins (e ∷ [], refl));
      own = ap (own pid.0) (seen ∙ journal)
          ∙ subst (λ (p : Pid). own p.0 (l.hub.journal ++ e ∷ []) ≡ own p.0 l.hub.journal ++ e ∷ []) (sym at) (own-mine l.hub.journal e)
          ∙ ap (λ (es : List Entry). es ++ e ∷ []) j.own;
    })

-- what the joined seat may publish: the entry that was made, and the mark of its port
pub next_served : {name : Name} {l l' : LockedView} {hub mine : Seat (Unit {0}) View} {s : SeatView} {pid : Pid} {u : View} {e : Entry} {x : Event}
    {port : Port} {n new : ℕ} → IsDesk name l hub → IsSeatOf name s pid mine → s.pid ≡ e.pid → SeesBoth (with_joined hub.me.0 mine.me.0) u
    → Serves l e l' x → port.0 ≡ number_of (port_changed_by e.step x.what)
    → n ≡ port.0 → new ≡ mark_at (state_of l'.hub) port → IsNext name.terms u n new e
next_served {name} {l} {l'} {hub} {mine} {s} {pid} {u} {e} {x} {port} {n} {new} d o same sees served changes number marks =
    let t = name.terms in
    let j = joined_desk d o.alone sees in
    let after = hub_steps t l.hub l'.hub e (x ∷ served.ended) d.hub served.step in
    let journal = ap (λ (h : HubView). h.journal) served.step.journal in
    let grows : l'.hub.journal ≡ u.seen ++ e ∷ [] = journal ∙ ap (λ (es : List Entry). es ++ e ∷ []) (sym j.whole) in
    let before : IsHistory t u.seen = subst (IsHistory t) (sym j.whole) d.hub.history in
    let history : IsHistory t (u.seen ++ e ∷ []) = subst (IsHistory t) grows after.history in
    let at : n ≡ number_of (changed t.head u.seen e) =
    number ∙ changes ∙ ap (λ (xs : List Event). number_of (port_changed e.step xs)) served.step.events
    ∙ (λ i. number_of (changed (d.hub.terms i).head (sym j.whole i) e)) in
    let marked : mark t.head (u.seen ++ e ∷ []) n ≡ new =
    (λ i. mark_at (state (sym after.terms i).head (sym grows i)) (port_numbered (number i))) ∙ sym marks in
    record {
      hub = j.number;
      caller = j.joined ∙ ap (λ (p : Pid). Some (p.0 + 1)) (ap (λ (y : SeatView). y.pid) o.shows ∙ same);
      history = history;
      word = subst (λ (k : ℕ). k ≤ MOST_PORTS) (sym at) (changed-few t.head u.seen e);
      mark = subst (MarksOne t.head u.seen e n) marked (marks_one t.head u.seen e n at);
      other = subst (IsOther t.head u.seen n) marked (mark_other t.head u.seen e n before.legal before.few history.legal history.few at);
    }
