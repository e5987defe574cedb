-- Who received from each port, and who has left, after one event more.
use Rattle.std.proofs.Common.{◌≡◌, ◌==◌, ◌&&◌, ◌||◌, ℕ, Bool, true, false, not, cond, arith, List, [], ◌∷◌, ◌++◌}
use Rattle.std.proofs.Common.{refl, ap, ◌∙◌, sym, append-nil, length, map, Option, None, Some, slice_get, slice_index_or}
use Rattle.std.specs.List.{cons_option, filter_map, list_all, list_any}
use Rattle.std.specs.Option.{option_and_then, option_map, option_map_or}
use Rattle.std.proofs.lemmas.Bool.{eqb-true}
use Rattle.std.proofs.lemmas.List.{map-append}
use Rattle.std.proofs.lemmas.List.Elements.{filter_map-append}
use Rattle.std.proofs.lemmas.List.Folds.{list_all-append}
use Rattle.std.proofs.lemmas.List.Sums.{fold-append}
use Rattle.hub_base.specs.declared.value.Port.{Port}
use Rattle.hub_base.specs.declared.value.Value.{Value}
use Rattle.hub_base.specs.Entry.{Entry}
use Rattle.hub_base.specs.declared.event.What.{What}
use Rattle.hub_base.specs.declared.event.What.TheVariants as what
use Rattle.hub_base.specs.Values.{cases_at, got_on, of_what}
use Rattle.hub_parts.specs.declared.side.Side.{Side}
use Rattle.hub_parts.specs.declared.side.Side.TheVariants as side
use Rattle.hub_story.specs.declared.moves.Move.{Move}
use Rattle.hub_story.specs.declared.told.Told.{Told}
use Rattle.hub_story.specs.declared.moved.Moved.{Moved}
use Rattle.hub_story.specs.declared.receivers.Receivers.{Receivers as Noted}
use Rattle.hub_story.specs.Leavers.{is_done, is_told_to, leavers, with_leaver}
use Rattle.hub_story.specs.Lives.{life, reopened, reopens, with_life}
use Rattle.hub_story.specs.Moves.{got_from, is_same, move_of, value_at}
use Rattle.hub_story.specs.OfPorts.{one_of, things_on}
use Rattle.hub_story.specs.Passing.{moved_by, receives}
use Rattle.hub_story.specs.Receivers.{AreReceivers, are_gone, begun, gone_from, got_there, receiver_by, receivers}
use Rattle.hub_story.proofs.OneSide.{moved-on}

abbrev pid_of : Moved → ℕ
pid_of m = m.told.event.pid.0

abbrev received : List Entry → List Told → Port → List ℕ
received es all p = map pid_of (receives es all p)

received-append : (es : List Entry) (xs ys : List Told) (p : Port) → received es (xs ++ ys) p ≡ received es xs p ++ received es ys p
received-append es xs ys p =
    ap (map pid_of) (filter_map-append (moved_by (got_on p) es) xs ys)
    ∙ map-append pid_of (filter_map (moved_by (got_on p) es) xs) (filter_map (moved_by (got_on p) es) ys)

-- a port is opened again by no event by which a value moves
done-moves-nothing : (es : List Entry) (t : Told) (p : Port) → reopens es p t ≡ true → receiver_by es t p ≡ []
done-moves-nothing es t p is = by t.event.what refl
  where
    at : What → List ℕ
    at w = map pid_of (filter_map (λ (u : Told). option_map (λ v. record { told = t; value = v }) (of_what (got_on p) (cases_at es t.asked) w)) (t ∷ []))

    unless-done : is_done t.event.what ≡ false → reopens es p t ≡ false
    unless-done off =
        let port = option_and_then (λ (e : Entry). reopened e.step) (slice_get es t.asked) in
        ap (λ (b : Bool). option_map_or (λ (q : Port). q.0 == p.0) (cond b port None) false) off

    by : (w : What) → w ≡ t.event.what → receiver_by es t p ≡ []
    by (what.Fired i o) same = let off : reopens es p t ≡ false = unless-done (ap is_done (sym same)) in absurd cc
    by (what.Made q) same = ap at (sym same)
    by what.Default same = ap at (sym same)
    by what.Done same = ap at (sym same)
    by what.Parked same = ap at (sym same)
    by what.Stalled same = ap at (sym same)
    by what.Cancelled same = ap at (sym same)
    by (what.Fault f) same = ap at (sym same)

-- who received by an event, if it tells of that
pub receiver-is : (es : List Entry) (t : Told) (p : Port) → receiver_by es t p ≡ got_there p (got_from (move_of es t)) t.event.pid.0
receiver-is es t p = ap at (moved-on side.Recv p (cases_at es t.asked) t.event.what) ∙ by (move_of es t)
  where
    at : Option Value → List ℕ
    at o = map pid_of (cons_option (option_map (λ v. record { told = t; value = v }) o) [])

    of-side : (m : Move) (s : Side) →
        at (cond (is_same side.Recv s && (m.port.0 == p.0)) (Some m.value) None)
        ≡ got_there p (cond (is_same side.Recv s) (Some m.port) None) t.event.pid.0
    of-side m side.Send = refl
    of-side m side.Recv = on (m.port.0 == p.0)
      where
        on : (b : Bool) → at (cond b (Some m.value) None) ≡ cond b (t.event.pid.0 ∷ []) []
        on true = refl
        on false = refl

    by : (o : Option Move) → at (option_and_then (value_at side.Recv p) o) ≡ got_there p (got_from o) t.event.pid.0
    by None = refl
    by (Some m) = of-side m m.side

-- who is among them already adds nothing
known-already : (test : ℕ → Bool) (n : ℕ) (xs : List ℕ) → list_any (λ y. y == n) xs ≡ true → list_all test xs ≡ list_all test (xs ++ n ∷ [])
known-already test n [] is = cc
known-already test n (x ∷ xs) is = by (x == n) (test x) refl refl is (known-already test n xs)
  where
    and-true : (b : Bool) → (b && true) ≡ b
    and-true true = refl
    and-true false = refl

    by : (same b : Bool) → same ≡ (x == n) → b ≡ test x → (same || list_any (λ y. y == n) xs) ≡ true →
        (list_any (λ y. y == n) xs ≡ true → list_all test xs ≡ list_all test (xs ++ n ∷ [])) → (b && list_all test xs) ≡ (b && list_all test (xs ++ n ∷ []))
    by same false e h is more = refl
    by false true e h is more = more is
    by true true e h is more =
        let hit : test n ≡ true = ap test (sym (eqb-true x n (sym e))) ∙ sym h in
        sym (list_all-append test xs (n ∷ []) ∙ ap (λ b. list_all test xs && (b && true)) hit ∙ and-true (list_all test xs))

pub known-there : (lists : List (List ℕ)) (p q : Port) (n : ℕ) (test : ℕ → Bool) → list_any (λ y. y == n) (things_on lists q) ≡ true →
    list_all test (things_on lists p) ≡ list_all test (things_on lists p ++ one_of q p n)
known-there lists p q n test is = by (q.0 == p.0) refl
  where
    by : (same : Bool) → same ≡ (q.0 == p.0) →
        list_all test (things_on lists p) ≡ list_all test (things_on lists p ++ cond same (n ∷ []) [])
    by false e = ap (list_all test) (sym (append-nil (things_on lists p)))
    by true e =
        known-already test n (things_on lists p)
        (ap (λ k. list_any (λ y. y == n) (slice_index_or lists k [])) (sym (eqb-true q.0 p.0 (sym e))) ∙ is)

-- ---- event by event
-- what is told of a port's present life after one event more: it is a new life, or goes on
life-next : (es : List Entry) (before : List Told) (t : Told) (p : Port) (ns : List ℕ) (test : ℕ → Bool) →
    list_all test ns ≡ list_all test (receivers es before p) →
    list_all test (begun es t p ns ++ receiver_by es t p) ≡ list_all test (receivers es (before ++ t ∷ []) p)
life-next es before t p ns test was =
    by (reopens es p t) refl ∙ ap (λ l. list_all test (received es l p)) (sym (fold-append (with_life es p) [] before (t ∷ [])))
  where
    by : (b : Bool) → b ≡ reopens es p t →
        list_all test (cond b [] ns ++ receiver_by es t p) ≡ list_all test (received es (cond b [] (life es p before ++ t ∷ [])) p)
    by true is = ap (list_all test) (done-moves-nothing es t p (sym is))
    by false is =
        list_all-append test ns (receiver_by es t p) ∙ ap (λ b. b && list_all test (receiver_by es t p)) was
        ∙ sym (list_all-append test (receivers es before p) (receiver_by es t p))
        ∙ ap (list_all test) (sym (received-append es (life es p before) (t ∷ []) p))

pub receivers-next : (es : List Entry) (before : List Told) (t : Told) (port : Option Port) (old new : Noted) (begun_pids : List (List ℕ)) →
    AreReceivers es before old → ((p : Port) → receiver_by es t p ≡ got_there p port t.event.pid.0) →
    ((p : Port) → things_on begun_pids p ≡ begun es t p (things_on old.pids p)) →
    ((p : Port) (test : ℕ → Bool) → list_all test (things_on new.pids p) ≡ list_all test (things_on begun_pids p ++ got_there p port t.event.pid.0)) →
    new.left.items ≡ with_leaver es old.left.items t → AreReceivers es (before ++ t ∷ []) new
receivers-next es before t port old new begun_pids was here begins received left = record {
  receivers = λ p test.
      received p test ∙ ap (λ l. list_all test (things_on begun_pids p ++ l)) (sym (here p))
      ∙ ap (λ l. list_all test (l ++ receiver_by es t p)) (begins p)
      ∙ life-next es before t p (things_on old.pids p) test (was.receivers p test);
  left = left ∙ ap (λ l. with_leaver es l t) was.left ∙ sym (fold-append (with_leaver es) [] before (t ∷ []));
}

pub nobody-yet : (es : List Entry) (noted : Noted) → ((p : Port) → things_on noted.pids p ≡ []) → noted.left.items ≡ [] → AreReceivers es [] noted
nobody-yet es noted none left = record { receivers = λ p test. ap (list_all test) (none p); left = left }

-- ---- of whom any test has the same answer, they are gone or not
none-of : (ns : List ℕ) → (length ns == 0) ≡ list_all (λ n. false) ns
none-of [] = refl
none-of (n ∷ ns) = grind arith

same-gone : (left : List Told) (ns ms : List ℕ) → ((test : ℕ → Bool) → list_all test ns ≡ list_all test ms) → are_gone left ns ≡ are_gone left ms
same-gone left ns ms same =
    ap (λ b. not b && list_all (has_left left) ns) (none-of ns ∙ same (λ n. false) ∙ sym (none-of ms))
    ∙ ap (λ b. not (length ms == 0) && b) (same (has_left left))
  where
    has_left : List Told → ℕ → Bool
    has_left left n = list_any (is_told_to n) left

pub gone-is : (es : List Entry) (all : List Told) (noted : Noted) → AreReceivers es all noted → (p : Port) →
    are_gone noted.left.items (things_on noted.pids p) ≡ gone_from es all p
gone-is es all noted so p =
    ap (λ left. are_gone left (things_on noted.pids p)) so.left
    ∙ same-gone (leavers es all) (things_on noted.pids p) (receivers es all p) (so.receivers p)
