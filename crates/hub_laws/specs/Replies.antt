-- What a process asked, and its reply, the answer to its last entry: this comes with the step that
-- answers it or that ends its call, and entries of others do not change it.
use Rattle.std.specs.Prelude.{◌≡◌, ◌==◌, ◌&&◌, ◌++◌, ℕ, Bool, true, false, not, List, [], ◌∷◌, filter, Option, None, Some}
use Rattle.std.specs.List.{list_any, AllByRecursion}
use Rattle.hub_base.specs.Entry.{Entry}
use Rattle.hub_base.specs.declared.head.Head.{Head}
use Rattle.hub_base.specs.declared.event.Event.{Event}
use Rattle.hub_base.specs.Steps.{is_waiting, refusal}
pub use Rattle.hub_base.specs.Values.{is_parked}
use Rattle.hub_base.specs.Runs.{state, events, events_after, moves}

abbrev pub last_from : {A : Type 0} → Option A → List A → Option A
last_from o [] = o
last_from o (x ∷ xs) = last_from (Some x) xs

-- the entries of process q
abbrev pub own : ℕ → List Entry → List Entry
own q es = filter (λ e. e.pid.0 == q) es

-- the events of process q but for `Parked`
abbrev pub told_to : ℕ → List Event → List Event
told_to q events = filter (λ e. (e.pid.0 == q) && not (is_parked e.what)) events

-- the last event of process q that is not `Parked`
abbrev pub reply : ℕ → Head → List Entry → Option Event
reply q h es = last_from None (told_to q (events h es))

-- whether some of these events is of process q
abbrev pub is_told : ℕ → List Event → Bool
is_told q events = list_any (λ e. e.pid.0 == q) events

-- ---- entries of others

-- entries of others do not change what a process without an open call has asked and was told
pub record Undisturbed (q : ℕ) (h : Head) (es fs : List Entry) : Type 0 where
  pub own : own q (es ++ fs) ≡ own q es
  pub untold : is_told q (events_after (state h es) fs) ≡ false
  pub reply : reply q h (es ++ fs) ≡ reply q h es
  pub free : is_waiting (state h (es ++ fs)) q ≡ false

abbrev pub RepliesLaw : Head → List Entry → ℕ → List Entry → Type 0
RepliesLaw h es q fs =
    is_waiting (state h es) q ≡ false → list_any (λ e. e.pid.0 == q) fs ≡ false →
    Undisturbed q h es fs

-- ---- the entry that brings a reply

-- this event is its process's reply, and the process has no open call
pub record IsReply (h : Head) (es : List Entry) (x : Event) : Type 0 where
  pub reply : reply x.pid.0 h es ≡ Some x
  pub free : is_waiting (state h es) x.pid.0 ≡ false

-- the process has asked and was told what it had been, and waits where it did
pub record IsLeft (h : Head) (es : List Entry) (e : Entry) (q : ℕ) : Type 0 where
  pub own : own q (es ++ e ∷ []) ≡ own q es
  pub reply : reply q h (es ++ e ∷ []) ≡ reply q h es
  pub waits : is_waiting (state h (es ++ e ∷ [])) q ≡ is_waiting (state h es) q

-- entry e after the entries es, its answer, and the events of the calls that ended
pub record Replied (h : Head) (es : List Entry) (e : Entry) (answer : Event) (ended : List Event) :
    Type 0 where
  pub caller : answer.pid ≡ e.pid
  -- the answer is the caller's reply, unless its call waits
  pub answered : is_parked answer.what ≡ false → IsReply h (es ++ e ∷ []) answer
  pub parked :
      is_parked answer.what ≡ true → is_told e.pid.0 ended ≡ false →
      is_waiting (state h (es ++ e ∷ [])) e.pid.0 ≡ true
  -- an event that follows is the reply to the call that ended
  pub ends : AllByRecursion (IsReply h (es ++ e ∷ [])) ended
  pub others : (q : ℕ) → is_told q (answer ∷ ended) ≡ false → IsLeft h es e q

abbrev pub AreReplied : Head → List Entry → Entry → List Event → Type 0
AreReplied h es e [] = ⊥
AreReplied h es e (answer ∷ ended) = Replied h es e answer ended

-- of an admitted entry
abbrev pub RepliedLaw : Head → List Entry → Entry → Type 0
RepliedLaw h es e =
    refusal (state h es) e.pid ≡ None → AreReplied h es e (moves (state h es) e).events
