-- The admitted entries of a run alone: their state, their events, and what joins them.
use Rattle.hub_laws.proofs.Prelude.{◌≡◌, Bool, true, List, [], ◌∷◌, ◌++◌, refl, ap, ◌∙◌, Option, Some, None, append-nil, ◌≤◌, not, length, arith, filter}
use Rattle.hub_laws.proofs.Prelude.{filter-append, AllByRecursion, Entry, Event, Fault, Head, moves, state_after, state, kept_after, keeps, kept, events_after}
use Rattle.hub_laws.proofs.Prelude.{State, opening, refusal, turn, IsAnswered, ends_waiting, JournalLaw, Grows, Begins, is_refusal}
use Rattle.hub_laws.proofs.Events.{answer_admits, waiting-ends}
use Rattle.hub_laws.proofs.Entries.{turn-answered}
use Rattle.hub_laws.proofs.Longer.{kept-entry}

-- The state, and which entries are admitted

state_after-kept : (s : State) (es : List Entry) → state_after s (kept_after s es) ≡ state_after s es
state_after-kept s [] = refl
state_after-kept s (e ∷ es) = grind (arith, state_after-kept (turn s e).state es, state_after-kept s es)

kept_after-kept : (s : State) (es : List Entry) → kept_after s (kept_after s es) ≡ kept_after s es
kept_after-kept s [] = refl
kept_after-kept s (e ∷ es) = grind (arith, kept_after-kept (turn s e).state es, kept_after-kept s es)

-- the journal of a run has the run's state
pub state-kept : (head : Head) (es : List Entry) → state head (kept head es) ≡ state head es
state-kept head es = state_after-kept (opening head) es

-- the journal of a run is legal
pub kept-kept : (head : Head) (es : List Entry) → kept head (kept head es) ≡ kept head es
kept-kept head es = kept_after-kept (opening head) es

-- The events

abbrev no_refusal : Event → Bool
no_refusal x = not (is_refusal x.what)

ended_pass : (events : List Event) → AllByRecursion (λ x. ends_waiting x.what ≡ true) events → filter no_refusal events ≡ events
ended_pass [] a = refl
ended_pass (x ∷ xs) a = rw ((waiting-ends x.what a.0).admitted, ended_pass xs a.1) refl

answered_pass : (e : Entry) (events : List Event) → IsAnswered e.pid e.step events → filter no_refusal events ≡ events
answered_pass e [] a = refl
answered_pass e (x ∷ xs) a = rw (answer_admits e.step x.what a.fits, ended_pass xs a.ends) refl

events_after-kept : (s : State) (es : List Entry) → events_after s (kept_after s es) ≡ filter no_refusal (events_after s es)
events_after-kept s [] = refl
events_after-kept s (e ∷ es) = grind (arith, filter-append, answered_pass, turn-answered, events_after-kept (turn s e).state es, events_after-kept s es)

pub journal-law : (head : Head) (es : List Entry) → JournalLaw head es
journal-law head es = record { legal = kept-kept head es; state = state-kept head es; events = events_after-kept (opening head) es }

-- A further entry

pub grows-law : (head : Head) (es : List Entry) (e : Entry) → Grows head es e
grows-law head es e = grind (arith, state-kept, kept-entry, append-nil)

-- A beginning

kept_most : (s : State) (es : List Entry) → length (kept_after s es) ≤ length es
kept_most s [] = omega arith
kept_most s (e ∷ es) = grind (arith, kept_most (turn s e).state es, kept_most s es)

-- where all entries are kept the first is admitted, and so are the others
first_kept : (s : State) (e : Entry) (es : List Entry) (o : Option Fault) → keeps o e (kept_after (moves s e).state es) ≡ e ∷ es
    → (o ≡ None) × (kept_after (moves s e).state es ≡ es)
first_kept s e es None h = (refl, cc)
first_kept s e es (Some f) h = grind (arith, kept_most (moves s e).state es)

begin_after : (s : State) (es fs : List Entry) → kept_after s (es ++ fs) ≡ es ++ fs → (kept_after s es ≡ es) × (kept_after (state_after s es) fs ≡ fs)
begin_after s [] fs h = (refl, h)
begin_after s (e ∷ es) fs h =
    let f = first_kept s e (es ++ fs) (refusal s e.pid) h in
    let rest = begin_after (moves s e).state es fs f.1 in
    (ap (λ o. keeps o e (kept_after (moves s e).state es)) f.0 ∙ ap (λ xs. e ∷ xs) rest.0, rest.1)

pub begins-law : (head : Head) (es fs : List Entry) → Begins head es fs
begins-law head es fs = record {
  legal = λ h. (begin_after (opening head) es fs h).0;
  goes_on = λ e legal is. (grows-law head es e).admitted is ∙ ap (λ xs. xs ++ e ∷ []) legal;
  next = λ e h. (first_kept (state head es) e fs (refusal (state head es) e.pid) (begin_after (opening head) es (e ∷ fs) h).1).0;
}
