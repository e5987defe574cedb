-- Replies after a cut.
use Rattle.hub_laws.proofs.Prelude.{◌≡◌, Bool, true, false, List, [], ◌∷◌, ◌++◌, refl, ap, ◌∙◌, sym, subst, Option, Some, None, ℕ, ◌==◌, ◌&&◌, not}
use Rattle.hub_laws.proofs.Prelude.{◌||◌, cond, arith}
use Rattle.hub_laws.proofs.Prelude.{filter, filter-append, list_any, AllByRecursion, or_right, false_from_ne_true, eqb-true}
use Rattle.hub_laws.proofs.Prelude.{Entry, Event, Head, Pid, Fault, State, moves, state, state_after, events, events_after, is_waiting, refusal}
use Rattle.hub_laws.proofs.Prelude.{opening, admits}
use Rattle.hub_laws.proofs.Prelude.{last_from, told_to, reply, is_told, is_parked, ends_waiting, AreReplied, IsAnswered}
use Rattle.hub_laws.proofs.Replied.{replied-law}
use Rattle.hub_laws.proofs.Answered.{moves-answered}
use Rattle.hub_laws.proofs.Longer.{state-entry, events_after-append}
use Rattle.hub_laws.proofs.Ready.{admitted}
use Rattle.hub_laws.proofs.Events.{waiting-ends}
use Rattle.hub_chapters.specs.Chapters.{Chapters, history}
use Rattle.hub_chapters.specs.Owed.{reply_since, reply_in, OwedLaw}
use Rattle.hub_chapters.proofs.Chapters.{next_checkpoint, cut-alike, runs-on, state-append}

-- The last event of a process

abbrev mine : ℕ → Event → Bool
mine q e = (e.pid.0 == q) && not (is_parked e.what)

last-append : (o : Option Event) (xs ys : List Event) → last_from o (xs ++ ys) ≡ last_from (last_from o xs) ys
last-append o [] ys = refl
last-append o (x ∷ xs) ys = last-append (Some x) xs ys

last_told : (o : Option Event) (xs : List Event) (x : Event) → last_from None xs ≡ Some x → last_from o xs ≡ Some x
last_told o [] x e = absurd (let g : ⊥ = cc in g)
last_told o (y ∷ ys) x e = e

-- the reply after further entries: the one of before, unless these tell another
reply_on : (q : ℕ) (h : Head) (es later : List Entry) →
    reply q h (es ++ later) ≡ last_from (reply q h es) (told_to q (events_after (state h es) later))
reply_on q h es later =
    ap (λ xs. last_from None (filter (mine q) xs)) (events_after-append (opening h) es later)
    ∙ ap (λ xs. last_from None xs) (filter-append (mine q) (events h es) (events_after (state h es) later))
    ∙ last-append None (told_to q (events h es)) (told_to q (events_after (state h es) later))

reply_after : (q : ℕ) (h : Head) (es later : List Entry) (x : Event) → reply_since q (state h es) later ≡ Some x → reply q h (es ++ later) ≡ Some x
reply_after q h es later x e = reply_on q h es later ∙ last_told (reply q h es) (told_to q (events_after (state h es) later)) x e

abbrev IsTold : List Event → Type 0
IsTold xs = (x : Event) × (last_from None xs ≡ Some x)

last_some : (y : Event) (xs : List Event) → (x : Event) × (last_from (Some y) xs ≡ Some x)
last_some y [] = (y, refl)
last_some y (x ∷ xs) = last_some x xs

last_untold : (o : Option Event) (xs : List Event) → last_from None xs ≡ None → last_from o xs ≡ o
last_untold o [] e = refl
last_untold o (y ∷ ys) e = let l = last_some y ys in absurd (let g : ⊥ = cc in g)

told_front : (xs ys : List Event) → IsTold xs → IsTold (xs ++ ys)
told_front xs ys t =
    let l = last_some t.0 ys in (l.0, last-append None xs ys ∙ ap (λ o. last_from o ys) t.1 ∙ l.1)

told_back : (xs ys : List Event) → IsTold ys → IsTold (xs ++ ys)
told_back xs ys t = (t.0, last-append None xs ys ∙ last_told (last_from None xs) ys t.0 t.1)

told_any : (f : Event → Bool) (xs : List Event) → list_any f xs ≡ true → IsTold (filter f xs)
told_any f [] e = absurd (let g : ⊥ = cc in g)
told_any f (x ∷ xs) e = by (f x) e (told_any f xs)
  where
    by : (b : Bool) → (b || list_any f xs) ≡ true → (list_any f xs ≡ true → IsTold (filter f xs)) → IsTold (cond b (x ∷ filter f xs) (filter f xs))
    by true e rest = last_some x (filter f xs)
    by false e rest = rest e

-- a call that ends is told

mine_any : (q : ℕ) (xs : List Event) → AllByRecursion (λ x. ends_waiting x.what ≡ true) xs → is_told q xs ≡ true → list_any (mine q) xs ≡ true
mine_any q [] a e = e
mine_any q (x ∷ xs) a e = let c = (waiting-ends x.what a.0).clear in grind (arith, mine_any q xs a.1)

told_ends : (q : ℕ) (h : Head) (es : List Entry) (e : Entry) (xs : List Event) → AreReplied h es e xs → IsAnswered e.pid e.step xs → (e.pid.0 == q) ≡ false →
    is_waiting (state h es) q ≡ true → is_waiting (state h (es ++ e ∷ [])) q ≡ false → IsTold (told_to q xs)
told_ends q h es e [] r a other before after = absurd r
told_ends q h es e (answer ∷ ended) r a other before after = by (is_told q (answer ∷ ended)) refl
  where
    by : (b : Bool) → b ≡ is_told q (answer ∷ ended) → IsTold (told_to q (answer ∷ ended))
    by false is = let same = (r.others q (sym is)).waits in absurd (let g : ⊥ = cc in g)
    by true is =
        let not_answer : (answer.pid.0 == q) ≡ false = ap (λ (p : Pid). p.0 == q) r.caller ∙ other in
        let rest : is_told q ended ≡ true = ap (λ b. b || is_told q ended) (sym not_answer) ∙ sym is in
        told_any (mine q) (answer ∷ ended) (or_right (mine q answer) (list_any (mine q) ended) (mine_any q ended a.ends rest))

step_told : (q : ℕ) (h : Head) (es : List Entry) (e : Entry) → is_waiting (state h es) q ≡ true → is_waiting (moves (state h es) e).state q ≡ false →
    IsTold (told_to q (moves (state h es) e).events)
step_told q h es e before after =
    let s : State = state h es in
    by (refusal s e.pid) refl
  where
    by : (o : Option Fault) → o ≡ refusal (state h es) e.pid → IsTold (told_to q (moves (state h es) e).events)
    by None is =
        let free = (admitted (state h es) e.pid (sym is)).free in
        let other : (e.pid.0 == q) ≡ false = false_from_ne_true (e.pid.0 == q) (λ t. let same : e.pid.0 ≡ q = eqb-true e.pid.0 q t in
        let w : is_waiting (state h es) e.pid.0 ≡ true = ap (λ n. is_waiting (state h es) n) same ∙ before in cc) in
        told_ends q h es e (moves (state h es) e).events (replied-law h es e (sym is)) (moves-answered (state h es) e (sym is)) other before
        (ap (λ (s : State). is_waiting s q) (state-entry h es e) ∙ after)
    by (Some f) is =
        let same : (moves (state h es) e).state ≡ state h es = ap (λ (o : Option Fault). (admits (state h es) e o).state) (sym is) in
        let w : is_waiting (moves (state h es) e).state q ≡ true = ap (λ (s : State). is_waiting s q) same ∙ before in
        absurd (let g : ⊥ = cc in g)

comes : (q : ℕ) (h : Head) (es later : List Entry) → is_waiting (state h es) q ≡ true → is_waiting (state_after (state h es) later) q ≡ false →
    IsTold (told_to q (events_after (state h es) later))
comes q h es [] before after = absurd (let g : ⊥ = cc in g)
comes q h es (e ∷ later) before after =
    let s : State = state h es in
    let t : State = (moves s e).state in
    let there : state h (es ++ e ∷ []) ≡ t = state-entry h es e in
    subst IsTold (sym (filter-append (mine q) (moves s e).events (events_after t later)))
    (by (is_waiting t q) refl there (λ b a. comes q h (es ++ e ∷ []) later b a))
  where
    by : (b : Bool) → b ≡ is_waiting (moves (state h es) e).state q → state h (es ++ e ∷ []) ≡ (moves (state h es) e).state →
        (is_waiting (state h (es ++ e ∷ [])) q ≡ true → is_waiting (state_after (state h (es ++ e ∷ [])) later) q ≡ false →
        IsTold (told_to q (events_after (state h (es ++ e ∷ [])) later))) →
        IsTold (told_to q (moves (state h es) e).events ++ told_to q (events_after (moves (state h es) e).state later))
    by true is there rest =
        told_back (told_to q (moves (state h es) e).events) (told_to q (events_after (moves (state h es) e).state later))
        (subst (λ (s : State). IsTold (told_to q (events_after s later))) there
        (rest (ap (λ (s : State). is_waiting s q) there ∙ sym is) (ap (λ (s : State). is_waiting (state_after s later) q) there ∙ after)))
    by false is there rest =
        told_front (told_to q (moves (state h es) e).events) (told_to q (events_after (moves (state h es) e).state later)) (step_told q h es e before (sym is))

-- Of chapters

pub owed-law : (h : Head) (c : Chapters) (later : List Entry) (q : ℕ) → OwedLaw h c later q
owed-law h c later q =
    let cp : List Entry = next_checkpoint h c in
    let whole : List Entry = history c in
    let same : reply_in q h c later ≡ reply_since q (state h whole) later =
    ap (λ xs. last_from None (told_to q xs)) (runs-on h cp whole later (cut-alike h c)).events in
    record {
      in_chapter = λ x e. reply_after q h cp later x e;
      in_history = λ x e. reply_after q h whole later x (sym same ∙ e);
      comes = λ before after.
          let t = comes q h whole later before (ap (λ (s : State). is_waiting s q) (sym (state-append h whole later)) ∙ after) in
          (t.0, same ∙ t.1);
      stays = λ e. reply_on q h whole later ∙ last_untold (reply q h whole) (told_to q (events_after (state h whole) later)) (sym same ∙ e);
    }
