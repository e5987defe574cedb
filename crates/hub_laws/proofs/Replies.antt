-- Entries of others leave a process alone that has no open call.
use Rattle.hub_laws.proofs.Prelude.{arith, common_steps, ◌≡◌, Bool, false, List, [], ◌∷◌, ◌++◌, refl, ap, ◌∙◌, sym, subst, Option, Some, ℕ, ◌==◌, append-nil}
use Rattle.hub_laws.proofs.Prelude.{filter, or_parts, or_from, filter-append, list_any, AllByRecursion, Entry, Event, Head, admits, moves, state_after, state}
use Rattle.hub_laws.proofs.Prelude.{events_after, events, State, OpenCall, opening, Change, turn, is_waiting, last_from, reply, told_to, is_told, own}
use Rattle.hub_laws.proofs.Prelude.{RepliesLaw, IsSound, all_append}
use Rattle.hub_laws.proofs.Account.{account-all}
use Rattle.hub_laws.proofs.Entries.{turn-account}
use Rattle.hub_laws.proofs.Leaving.{Ended, events_of}
use Rattle.hub_laws.proofs.Longer.{events-entry, events_after-append, state_after-append}
use Rattle.hub_laws.proofs.Rules.{moves-sound, state-sound}
use Rattle.hub_laws.proofs.Ready.{by-refusal}

-- what holds of the process that steps and of those that wait holds of all that are told
module _ (C : ℕ → Type 0) where
  abbrev Waiting : List OpenCall → Type 0
  Waiting calls = AllByRecursion (λ call. C call.pid.0) calls

  abbrev Told : List Event → Type 0
  Told es = AllByRecursion (λ e. C e.pid.0) es

  record Quietly (c : Change) : Type 0 where
    told : Told c.events
    waiting : Waiting c.state.parked

  ended_told : (xs : List Ended) → AllByRecursion (λ x. C x.call.pid.0) xs → Told (events_of xs)
  ended_told [] all = tt
  ended_told (x ∷ xs) all = (all.0, ended_told xs all.1)

  turn_told : (s : State) (e : Entry) → IsSound s → Waiting s.parked → C e.pid.0 → Quietly (turn s e)
  turn_told s e sound all me =
      let a = turn-account s e in
      let left = account-all (λ call. C call.pid.0) s e.pid e.step (turn s e) sound.apart a all (λ parks. me) in
      record { told = subst Told (sym a.told) (me, ended_told a.ended left.0); waiting = left.1 }

  events_told : (s : State) (fs : List Entry) → IsSound s → Waiting s.parked → AllByRecursion (λ e. C e.pid.0) fs →
      (Told (events_after s fs)) × (Waiting (state_after s fs).parked)
  events_told s [] sound all by = (tt, all)
  events_told s (e ∷ fs) sound all by =
      let q : Quietly (moves s e) = by-refusal (λ o. Quietly (admits s e o)) s e.pid (λ is. turn_told s e sound all by.0)
      (λ f is. record { told = (by.0, tt); waiting = all }) in
      let rest = events_told (moves s e).state fs (moves-sound s e sound) q.waiting by.1 in
      (all_append (λ e. C e.pid.0) (moves s e).events (events_after (moves s e).state fs) q.told rest.0, rest.1)

-- a process apart from these

abbrev Not : ℕ → ℕ → Type 0
Not q n = (n == q) ≡ false

any_none : {A : Type 0} (xs : List A) (test : A → Bool) → list_any test xs ≡ false → AllByRecursion (λ x. test x ≡ false) xs
any_none [] test e = tt
any_none (x ∷ xs) test e = let f = or_parts (test x) (list_any test xs) e in (f.0, any_none xs test f.1)

none_any : {A : Type 0} (xs : List A) (test : A → Bool) → AllByRecursion (λ x. test x ≡ false) xs → list_any test xs ≡ false
none_any [] test a = refl
none_any (x ∷ xs) test a = or_from (test x) (list_any test xs) a.0 (none_any xs test a.1)

filter_none : {A : Type 0} (xs : List A) (test : A → Bool) → list_any test xs ≡ false → filter test xs ≡ []
filter_none [] test e = refl
filter_none (x ∷ xs) test e = let f = or_parts (test x) (list_any test xs) e in rw f.0 (filter_none xs test f.1)

pub told_none : (q : ℕ) (es : List Event) → is_told q es ≡ false → told_to q es ≡ []
told_none q [] e = refl
told_none q (x ∷ xs) e = let f = or_parts (x.pid.0 == q) (is_told q xs) e in rw f.0 (told_none q xs f.1)

-- what a process was told by a run that goes on
pub told_to-append : (q : ℕ) (head : Head) (es fs : List Entry)
    → told_to q (events head (es ++ fs)) ≡ told_to q (events head es) ++ told_to q (events_after (state head es) fs)
told_to-append q head es fs = grind (arith, events_after-append, filter-append)

-- a process that is not told anything keeps its reply
pub reply-untold : (q : ℕ) (head : Head) (es fs : List Entry) → is_told q (events_after (state head es) fs) ≡ false → reply q head (es ++ fs) ≡ reply q head es
reply-untold q head es fs e = grind (arith, told_to-append, told_none, append-nil)

last_append : {A : Type 0} (o : Option A) (xs ys : List A) → last_from o (xs ++ ys) ≡ last_from (last_from o xs) ys
last_append o [] ys = refl
last_append o (x ∷ xs) ys = last_append (Some x) xs ys

-- one entry more: the last of its events for the process, or what it had
pub reply-entry : (q : ℕ) (head : Head) (es : List Entry) (e : Entry)
    → reply q head (es ++ e ∷ []) ≡ last_from (reply q head es) (told_to q (moves (state head es) e).events)
reply-entry q head es e = grind (arith, events-entry, filter-append, last_append)

pub own-others : (q : ℕ) (es fs : List Entry) → list_any (λ e. e.pid.0 == q) fs ≡ false → own q (es ++ fs) ≡ own q es
own-others q es fs e = rw (filter-append (λ (e : Entry). e.pid.0 == q) es fs, filter_none fs (λ e. e.pid.0 == q) e) (append-nil (own q es))

pub own-mine : (es : List Entry) (e : Entry) → own e.pid.0 (es ++ e ∷ []) ≡ own e.pid.0 es ++ e ∷ []
own-mine es e = grind (arith, common_steps)

pub replies-law : (head : Head) (es : List Entry) (q : ℕ) (fs : List Entry) → RepliesLaw head es q fs
replies-law head es q fs free others =
    let after = events_told (Not q) (state head es) fs (state-sound head es) (any_none (state head es).parked (λ call. call.pid.0 == q) free)
    (any_none fs (λ e. e.pid.0 == q) others) in
    let quiet : is_told q (events_after (state head es) fs) ≡ false = none_any (events_after (state head es) fs) (λ e. e.pid.0 == q) after.0 in
    record {
      own = own-others q es fs others;
      untold = quiet;
      reply = reply-untold q head es fs quiet;
      free = ap (λ (s : State). is_waiting s q) (state_after-append (opening head) es fs)
          ∙ none_any (state_after (state head es) fs).parked (λ call. call.pid.0 == q) after.1;
    }
