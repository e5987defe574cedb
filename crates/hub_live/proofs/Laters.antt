-- What a look, a meeting and a call leave in a seat.
use Rattle.std.proofs.Common.{◌≡◌, ℕ, ◌+◌, ◌<◌, ◌==◌, ◌&&◌, Bool, true, false, not, cond, List, [], ◌∷◌, ◌++◌}
use Rattle.std.proofs.Common.{filter, refl, sym, ap, ◌∙◌, subst, Option, Some, None, Ok, add-one, length, arith}
use Rattle.std.specs.Prelude.{All, IsSome}
use Rattle.std.proofs.lemmas.List.Elements.{All-cons}
use Rattle.std.proofs.lemmas.Bool.{and_parts}
use Rattle.hub_base.specs.Runs.{events}
use Rattle.hub_live.specs.Moves.{Knew}
use Rattle.hub_live.specs.Seated.{IsSeated}
use Rattle.hub_live.specs.Calls.{AskedNothing, entry_of}
use Rattle.hub_live.specs.Prelude.{IsPrefix, Seat, Head, Pid, Entry, Event, is_waiting, state, own, reply, last_from, is_parked, Terms, View, IsReplyTo, Name}
use Rattle.hub_live.specs.Prelude.{name_of, IsHistory, Knows, Sees, SeesBoth, Met, with_joined, parted, given_back, SeatView, IsIdle, IsFree, own_of, IsToken}
use Rattle.hub_live.specs.Prelude.{IsSingle, IsAlone, seat_of, StandsIn, Later, MadeEntry, AreSeats, LockedView, Made, ServesSeat}
use Rattle.hub_live.specs.Prelude.{Answers, AnswersNoCall, HasEnded, Step}
use Rattle.hub_base.proofs.Lists.{prefix_self, prefix_trans}
use Rattle.hub_live.proofs.Locks.{served_answers, answers_no_call, parked_call}
use Rattle.hub_live.proofs.Refusals.{asks_nothing}

-- ---- a look

pub later_self : (s : SeatView) → IsIdle s → Later s s
later_self s idle = record { hub = refl; pid = refl; begins = prefix_self s.seen; idle = idle }

-- two seats that were joined and parted again
pub met : {name : Name} {a b : Seat (Unit {0}) View} {u w w' : View} → IsSingle name a → IsSingle name b → SeesBoth (with_joined a.me.0 b.me.0) u
    → w ≡ parted u → w' ≡ given_back u → Met a.me.0 b.me.0 w w'
met {name} {a} {b} {u} m o s left back = subst (λ (x : View × View). Met a.me.0 b.me.0 x.0 x.1) (λ i. (sym left i, sym back i)) (record {
  first = record { terms = s.sees.terms; number = s.sees.number; joined = sym m.joined; history = s.sees.history; own = s.sees.own };
  second = record {
    terms = s.sees.terms ∙ m.terms ∙ sym o.terms;
    number = s.sees.joined;
    joined = sym o.joined;
    history = subst (λ (x : Terms × List Entry). IsHistory x.0 x.1) (λ i. ((m.terms ∙ sym o.terms) i, sym s.both i)) s.sees.history;
    own = λ n has. subst (λ (es : List Entry). Knew es b.me.0.seen n) (sym s.both) (s.others n has);
  };
  together = sym s.both;
})

-- the view s of a seat of the hub shows this process and this seat of the table
pub record IsSeatOf (name : Name) (s : SeatView) (pid : Pid) (mine : Seat (Unit {0}) View) : Type 0 where
  pub shows : seat_of pid (Some mine) ≡ s
  pub alone : IsAlone pid mine
  pub single : IsSingle name mine

pub seat_opened : {name : Name} {s : SeatView} {pid : Pid} {o : Option (Seat (Unit {0}) View)} {mine : Seat (Unit {0}) View} → s.hub ≡ name
    → IsSeated pid o → seat_of pid o ≡ s → o ≡ Some mine → IsSeatOf name s pid mine
seat_opened {name} {s} {pid} {o} {mine} hub inside view is =
    let opened : (seat_of pid (Some mine) ≡ s) × IsAlone pid mine = subst (λ x. (seat_of pid x ≡ s) × IsSeated pid x) is (view, inside) in
    let named : name_of mine.table_id mine.me.0.terms ≡ name = ap (λ (x : SeatView). x.hub) opened.0 ∙ hub in
    record {
      shows = opened.0;
      alone = opened.1;
      single = record {
        is = record { table = ap (λ (n : Name). n.table) named; free = opened.1.free };
        number = subst IsSome (sym opened.1.number) refl;
        joined = opened.1.joined;
        terms = ap (λ (n : Name). n.terms) named;
      };
    }

-- the same seat, which has seen no less, and whose process asked nothing more in it
pub record Follows (s t : SeatView) : Type 0 where
  pub hub : t.hub ≡ s.hub
  pub pid : t.pid ≡ s.pid
  pub history : IsHistory t.hub.terms t.seen
  pub begins : IsPrefix s.seen t.seen
  pub own : own_of t ≡ own_of s

pub record HasSeen (s : SeatView) (pid : Pid) (back : Seat (Unit {0}) View) : Type 0 where
  pub alone : IsAlone pid back
  pub follows : Follows s (seat_of pid (Some back))

pub has_seen : {name : Name} {s : SeatView} {pid : Pid} {mine back : Seat (Unit {0}) View} → IsSeatOf name s pid mine → IsToken name back
    → Sees mine.me.0 back.me.0 → HasSeen s pid back
has_seen {name} {s} {pid} {mine} {back} o token sees =
    let m = o.alone in
    let k = sees.own (pid.0 + 1) m.number in
    let history : IsHistory back.me.0.terms back.me.0.seen = subst (λ (t : Terms). IsHistory t back.me.0.seen) (sym sees.terms) sees.history in
    record {
      alone = record {
        free = token.free;
        number = sees.number ∙ m.number;
        joined = sees.joined ∙ m.joined;
        below = subst (λ (t : Terms). pid.0 < t.head.procs) (sym sees.terms) m.below;
        history = history;
      };
      follows = subst (λ (x : SeatView). Follows x (seat_of pid (Some back))) o.shows (record {
        hub = λ i. name_of ((token.table ∙ sym o.single.is.table) i) (sees.terms i);
        pid = refl;
        history = history;
        begins = k.begins;
        own = subst (Knows back.me.0.seen mine.me.0.seen) (add-one pid.0) k.knows;
      });
    }

pub asked_nothing : {s t : SeatView} → Follows s t → IsFree s → AskedNothing s t
asked_nothing {s} {t} f free =
    asks_nothing s.hub.terms s.pid s.seen t.seen f.begins (subst (λ (p : Pid). own p.0 t.seen ≡ own_of s) f.pid f.own) free

-- where it was idle, it is so again
pub record Looking (s t : SeatView) : Type 0 where
  pub later : Later s t
  pub same : AskedNothing s t

pub looking : {s : SeatView} {pid : Pid} {back : Seat (Unit {0}) View} → IsIdle s → HasSeen s pid back → Looking s (seat_of pid (Some back))
looking {back = back} idle h =
    let f = h.follows in
    let same = asked_nothing f idle.free in
    let free = (λ i. is_waiting (state (f.hub i).terms.head back.me.0.seen) (f.pid i).0) ∙ same.free in
    record { later = record { hub = f.hub; pid = f.pid; begins = f.begins; idle = record { history = f.history; free = free } }; same = same }

pub stands_in : {s t : SeatView} {journal : List Entry} → Follows s t → t.seen ≡ journal → IsFree s → StandsIn s journal
stands_in {s} f whole free = subst (StandsIn s) whole (record { begins = f.begins; same = asked_nothing f free })

-- ---- a call

last_tests_by : {A : Type 0} (test : A → Bool) (o : Option A) (y : A) (ys : List A) (x : A) (b : Bool) → b ≡ test y → ((z : A) → o ≡ Some z → test z ≡ true)
    → ((o' : Option A) → ((z : A) → o' ≡ Some z → test z ≡ true) → last_from o' (filter test ys) ≡ Some x → test x ≡ true)
    → last_from o (cond b (y ∷ filter test ys) (filter test ys)) ≡ Some x → test x ≡ true
last_tests_by test o y ys x true is before rest h = rest (Some y) (λ z e. let same : y ≡ z = cc in ap test (sym same) ∙ sym is) h
last_tests_by test o y ys x false is before rest h = rest o before h

last_tests : {A : Type 0} (test : A → Bool) (o : Option A) (xs : List A) (x : A) → ((y : A) → o ≡ Some y → test y ≡ true)
    → last_from o (filter test xs) ≡ Some x → test x ≡ true
last_tests test o [] x before h = before x h
last_tests test o (y ∷ ys) x before h = last_tests_by test o y ys x (test y) refl before (λ o' before'. last_tests test o' ys x before') h

not_true : (b : Bool) → not b ≡ true → b ≡ false
not_true true h = sym h
not_true false h = refl

-- no reply is `Parked`
reply_ended : (q : ℕ) (head : Head) (es : List Entry) (x : Event) → reply q head es ≡ Some x → is_parked x.what ≡ false
reply_ended q head es x is =
    let told = last_tests (λ (e : Event). (e.pid.0 == q) && not (is_parked e.what)) None (events head es) x (λ y h. absurd (let g : ⊥ = cc in g)) is in
    not_true (is_parked x.what) (and_parts (x.pid.0 == q) (not (is_parked x.what)) told).1

-- s made the entry and became a, and then b, which was told so
made_later : (t : Terms) (s a b : SeatView) (e : Entry) (x : Event) → s.hub.terms ≡ t → a.hub ≡ s.hub → own_of a ≡ own_of s ++ e ∷ []
    → b.hub ≡ a.hub → b.pid ≡ a.pid → own_of b ≡ own_of a → IsReplyTo t.head a.pid.0 b.seen x → MadeEntry s b e x
made_later t s a b e x terms ah ao bh bp bo told =
    let same_terms : b.hub.terms ≡ t = ap (λ (n : Name). n.terms) (bh ∙ ah) ∙ terms in
    record {
      own = bo ∙ ao;
      reply = (λ i. reply (bp i).0 (same_terms i).head b.seen) ∙ told.reply;
      ended = reply_ended a.pid.0 t.head b.seen x told.reply;
    }

-- a seat whose process was told this is idle again
later_told : {name : Name} {s t : SeatView} {x : Event} → s.hub ≡ name → (t.hub ≡ s.hub) × (t.pid ≡ s.pid) → IsPrefix s.seen t.seen
    → IsHistory name.terms t.seen → IsReplyTo name.terms.head s.pid.0 t.seen x → Later s t
later_told {t = t} named same begins history told =
    let hub = same.0 ∙ named in
    record {
      hub = same.0;
      pid = same.1;
      begins = begins;
      idle = record {
        history = subst (λ (n : Name). IsHistory n.terms t.seen) (sym hub) history;
        free = (λ i. is_waiting (state (hub i).terms.head t.seen) (same.1 i).0) ∙ told.free;
      };
    }

answered_so : (pid : Pid) (step : Step) (first x : Event) → Answers pid step first → (is_parked first.what ≡ false → x ≡ first)
    → (b : Bool) → is_parked first.what ≡ b → AnswersNoCall pid step x
answered_so pid step first x by same false clear = answers_no_call pid step x (subst (Answers pid step) (sym (same clear)) by)
answered_so pid step first x by same true waits = parked_call pid step first x by.1 waits

-- what a call that was answered leaves in its seat
pub record Answered (s t : SeatView) (step : Step) (x : Event) : Type 0 where
  pub later : Later s t
  pub made : Made s t step x
  pub answer : AnswersNoCall s.pid step x

-- its step was answered, maybe by `Parked`, and then ended, while its seat came from t to u; by the same answer where
-- it did not park
pub answered : {name : Name} {old new : LockedView} {s t u : SeatView} {first x : Event} (step : Step) → s.hub ≡ name
    → ServesSeat name old s (entry_of s step) new t (Ok first) → HasEnded name t u x → (is_parked first.what ≡ false → x ≡ first)
    → Answered s u step x
answered {name} {old} {new} {s} {t} {u} {first} {x} step hub served ended same =
    let told = subst (λ (p : Pid). IsReplyTo name.terms.head p.0 u.seen x) served.same.1 ended.told in
    let by = served_answers old new (entry_of s step) first served.ok in
    record {
      later = later_told hub (ended.same.0 ∙ served.same.0, ended.same.1 ∙ served.same.1)
          (prefix_trans s.seen t.seen u.seen served.begins ended.begins) ended.history told;
      made = made_later name.terms s t u (entry_of s step) x (ap (λ (n : Name). n.terms) hub) served.same.0 served.own ended.same.0 ended.same.1
          ended.own ended.told;
      answer = answered_so s.pid step first x by same (is_parked first.what) refl;
    }

-- ---- the seats of a new hub

pub push_seat : (name : Name) (first : ℕ) (ss : List SeatView) (s : SeatView) → AreSeats name first ss
    → s ≡ record { hub = name; pid = record { 0 = first + length ss }; seen = [] } → AreSeats name first (ss ++ s ∷ [])
push_seat name first [] s h is = (is ∙ ap (λ (n : ℕ). record { hub = name; pid = record { 0 = n }; seen = [] }) (omega arith), tt)
push_seat name first (x ∷ ss) s h is =
    (h.0, push_seat name (first + 1) ss s h.1 (is ∙ ap (λ (n : ℕ). record { hub = name; pid = record { 0 = n }; seen = [] }) (omega arith)))

pub all_of_hub : (name : Name) (first : ℕ) (ss : List SeatView) → AreSeats name first ss → All (λ s. s.hub ≡ name) ss
all_of_hub name first [] h = λ k d lt. absurd (omega arith)
all_of_hub name first (x ∷ xs) h = All-cons (λ (s : SeatView). s.hub ≡ name) x xs (ap (λ (s : SeatView). s.hub) h.0) (all_of_hub name (first + 1) xs h.1)
