-- The events of an admitted entry are replies.
use Rattle.hub_laws.proofs.Prelude.{◌≡◌, Bool, true, false, List, [], ◌∷◌, ◌++◌, refl, ap, ◌∙◌, sym, subst, Some, None, ℕ, ◌==◌, zero, suc}
use Rattle.hub_laws.proofs.Prelude.{append-nil, ◌+◌}
use Rattle.hub_laws.proofs.Prelude.{◌≤◌, not, length, arith, ◌&&◌, filter, nat_lt, and-false, or_parts, common_steps, AllByRecursion, slice_get}
use Rattle.hub_laws.proofs.Prelude.{Entry, Event}
use Rattle.hub_laws.proofs.Prelude.{Head, Pid, admits, moves, state, State, OpenCall, refusal, is_waiting, IsAnswered, ends_waiting, endings, is_parked}
use Rattle.hub_laws.proofs.Prelude.{last_from, reply, told_to, is_told, IsReply, IsLeft, AreReplied, RepliedLaw, IsSound, is_among, eqb-true}
use Rattle.hub_laws.proofs.Leaving.{one}
use Rattle.hub_laws.proofs.Calls.{same_number}
use Rattle.hub_laws.proofs.Ready.{admitted}
use Rattle.hub_laws.proofs.Rules.{state-sound}
use Rattle.hub_laws.proofs.Events.{Counted, answered_counts, waiting-ends}
use Rattle.hub_laws.proofs.Balance.{open_calls, ends, open_none, open_most, Balance, turn-balance}
use Rattle.hub_laws.proofs.Answered.{moves-answered}
use Rattle.hub_laws.proofs.Replies.{told_none, reply-untold, own-others, reply-entry}
use Rattle.hub_laws.proofs.Longer.{state-entry}

-- Counting

among-count : (q : ℕ) (calls : List OpenCall) → is_among q calls ≡ nat_lt 0 (open_calls q calls)
among-count q [] = refl
among-count q (call ∷ calls) = grind (arith, among-count q calls)

moves-balance : (q : ℕ) (s : State) (e : Entry) → IsSound s → refusal s e.pid ≡ None → Balance q s e.pid (moves s e)
moves-balance q s e sound is = subst (λ o. Balance q s e.pid (admits s e o)) (sym is) (turn-balance q s e sound)

-- after an admitted entry a process was told at most one event that counts, and then it does not wait
one_told : (q : ℕ) (s : State) (e : Entry) → IsSound s → refusal s e.pid ≡ None → ends q (moves s e).events + open_calls q (moves s e).state.parked ≤ 1
one_told q s e sound is = by (e.pid.0 == q) refl (moves-balance q s e sound is)
  where
    by : (b : Bool) → b ≡ (e.pid.0 == q) →
        ends q (moves s e).events + open_calls q (moves s e).state.parked ≡ open_calls q s.parked + one b →
        ends q (moves s e).events + open_calls q (moves s e).state.parked ≤ 1
    by true same bal =
        let none : open_calls e.pid.0 s.parked ≡ 0 = open_none e.pid.0 s.parked (admitted s e.pid is).free in
        let here : open_calls q s.parked ≡ 0 = subst (λ (n : ℕ). open_calls n s.parked ≡ 0) (eqb-true e.pid.0 q (sym same)) none in
        omega (arith, bal, here)
    by false same bal = omega (arith, bal, open_most q s.parked sound.apart)

-- What a process is told is what counts

told_endings : (q : ℕ) (events : List Event) → AllByRecursion Counted events → told_to q events ≡ endings q events
told_endings q [] a = refl
told_endings q (x ∷ xs) a = grind (arith, told_endings q xs a.1)

-- One event alone

pub one_left : {A : Type 0} (test : A → Bool) (xs : List A) (i : ℕ) (x : A) → slice_get xs i ≡ Some x → test x ≡ true
    → length (filter test xs) ≤ 1 → filter test xs ≡ x ∷ []
one_left test [] i x at passes most = cc
one_left test (y ∷ ys) zero x at passes most = grind (arith, common_steps)
one_left test (y ∷ ys) (suc i) x at passes most = grind (arith, one_left test ys i x)

-- Replies

-- who waits after one entry more
after_entry : (q : ℕ) (head : Head) (es : List Entry) (e : Entry)
    → is_waiting (state head (es ++ e ∷ [])) q ≡ is_among q (moves (state head es) e).state.parked
after_entry q head es e = ap (λ (s : State). is_waiting s q) (state-entry head es e)

-- a process that was told of its call does not wait
free_from : (q : ℕ) (s : State) (e : Entry) → IsSound s → refusal s e.pid ≡ None → ends q (moves s e).events ≡ 1 → is_among q (moves s e).state.parked ≡ false
free_from q s e sound is told =
    let none : open_calls q (moves s e).state.parked ≡ 0 = omega (arith, one_told q s e sound is, told) in
    among-count q (moves s e).state.parked ∙ ap (nat_lt 0) none

event_replies : (head : Head) (es : List Entry) (e : Entry) → refusal (state head es) e.pid ≡ None → AllByRecursion Counted (moves (state head es) e).events →
    (i : ℕ) (x : Event) → slice_get (moves (state head es) e).events i ≡ Some x → is_parked x.what ≡ false → IsReply head (es ++ e ∷ []) x
event_replies head es e is counted i x at clear =
    let q : ℕ = x.pid.0 in
    let s : State = state head es in
    let same : told_to q (moves s e).events ≡ endings q (moves s e).events = told_endings q (moves s e).events counted in
    let most : length (told_to q (moves s e).events) ≤ 1 = omega (arith, ap length same, one_told q s e (state-sound head es) is) in
    let here : ((x.pid.0 == q) && not (is_parked x.what)) ≡ true = rw (same_number x.pid.0, clear) refl in
    let one : told_to q (moves s e).events ≡ x ∷ [] = one_left (λ y. (y.pid.0 == q) && not (is_parked y.what)) (moves s e).events i x at here most in
    record {
      reply = reply-entry q head es e ∙ ap (λ xs. last_from (reply q head es) xs) one;
      free = after_entry q head es e ∙ free_from q s e (state-sound head es) is (ap length (sym same ∙ one));
    }

-- a process that was told nothing
untold_left : (head : Head) (es : List Entry) (e : Entry) (q : ℕ) → refusal (state head es) e.pid ≡ None → AllByRecursion Counted
    (moves (state head es) e).events → (e.pid.0 == q) ≡ false → is_told q (moves (state head es) e).events ≡ false → IsLeft head es e q
untold_left head es e q is counted other untold =
    let s : State = state head es in
    let none : endings q (moves s e).events ≡ [] = sym (told_endings q (moves s e).events counted) ∙ told_none q (moves s e).events untold in
    let bal : ends q (moves s e).events + open_calls q (moves s e).state.parked ≡ open_calls q s.parked + 0 =
    rw other at (moves-balance q s e (state-sound head es) is) in
    let count : open_calls q (moves s e).state.parked ≡ open_calls q s.parked = omega (arith, bal, ap length none) in
    record {
      own = own-others q es (e ∷ []) (rw other refl);
      reply = reply-untold q head es (e ∷ []) (rw append-nil untold);
      waits = after_entry q head es e ∙ among-count q (moves s e).state.parked ∙ ap (λ n. nat_lt 0 n) count ∙ sym (among-count q s.parked);
    }

-- a caller that was told `Parked` alone
parked_waits : (head : Head) (es : List Entry) (e : Entry) → refusal (state head es) e.pid ≡ None → AllByRecursion Counted (moves (state head es) e).events
    → told_to e.pid.0 (moves (state head es) e).events ≡ [] → is_waiting (state head (es ++ e ∷ [])) e.pid.0 ≡ true
parked_waits head es e is counted none =
    let s : State = state head es in
    let bal : ends e.pid.0 (moves s e).events + open_calls e.pid.0 (moves s e).state.parked ≡ open_calls e.pid.0 s.parked + 1 =
    rw (same_number e.pid.0) at (moves-balance e.pid.0 s e (state-sound head es) is) in
    let free : open_calls e.pid.0 s.parked ≡ 0 = open_none e.pid.0 s.parked (admitted s e.pid is).free in
    let zero_ends : endings e.pid.0 (moves s e).events ≡ [] = sym (told_endings e.pid.0 (moves s e).events counted) ∙ none in
    let one : open_calls e.pid.0 (moves s e).state.parked ≡ 1 = omega (arith, bal, free, ap length zero_ends) in
    after_entry e.pid.0 head es e ∙ among-count e.pid.0 (moves s e).state.parked ∙ ap (λ n. nat_lt 0 n) one

replied_by : (head : Head) (es : List Entry) (e : Entry) (events : List Event) → events ≡ (moves (state head es) e).events → IsAnswered e.pid e.step events →
    ((i : ℕ) (x : Event) → slice_get events i ≡ Some x → is_parked x.what ≡ false → IsReply head (es ++ e ∷ []) x) →
    (told_to e.pid.0 events ≡ [] → is_waiting (state head (es ++ e ∷ [])) e.pid.0 ≡ true) →
    ((q : ℕ) → (e.pid.0 == q) ≡ false → is_told q events ≡ false → IsLeft head es e q) → AreReplied head es e events
replied_by head es e [] is a each waits left = a
replied_by head es e (x ∷ xs) is a each waits left = record {
  caller = a.own;
  answered = each 0 x refl;
  parked = λ parked untold. waits (rw (parked, and-false (x.pid.0 == e.pid.0)) (told_none e.pid.0 xs untold));
  ends = ended_replies xs a.ends (λ i y e. each (suc i) y e);
  others = λ q untold. left q (ap (λ (p : Pid). p.0 == q) (sym a.own) ∙ (or_parts (x.pid.0 == q) (is_told q xs) untold).0) untold;
}
  where
    ended_replies : (xs : List Event) → AllByRecursion (λ x. ends_waiting x.what ≡ true) xs
        → ((i : ℕ) (x : Event) → slice_get xs i ≡ Some x → is_parked x.what ≡ false → IsReply head (es ++ e ∷ []) x)
        → AllByRecursion (IsReply head (es ++ e ∷ [])) xs
    ended_replies [] ends each = tt
    ended_replies (x ∷ xs) ends each = (each 0 x refl ((waiting-ends x.what ends.0).clear), ended_replies xs ends.1 (λ i y e. each (suc i) y e))

pub replied-law : (head : Head) (es : List Entry) (e : Entry) → RepliedLaw head es e
replied-law head es e is =
    let answered = moves-answered (state head es) e is in
    let counted = answered_counts e (moves (state head es) e).events answered in
    replied_by head es e (moves (state head es) e).events refl answered (event_replies head es e is counted)
    (parked_waits head es e is counted) (λ q. untold_left head es e q is counted)
