-- A run that goes on: by more entries, and by one.
use Rattle.hub_laws.proofs.Prelude.{arith, ◌≡◌, List, [], ◌∷◌, ◌++◌, refl, ap, ◌∙◌, append-nil, append_assoc, Entry, Head, moves, state_after, state}
use Rattle.hub_laws.proofs.Prelude.{kept_after, keeps, kept, events_after, events, State, opening, refusal}

-- By more entries

pub state_after-append : (s : State) (es fs : List Entry) → state_after s (es ++ fs) ≡ state_after (state_after s es) fs
state_after-append s [] fs = refl
state_after-append s (e ∷ es) fs = state_after-append (moves s e).state es fs

pub events_after-append : (s : State) (es fs : List Entry) → events_after s (es ++ fs) ≡ events_after s es ++ events_after (state_after s es) fs
events_after-append s [] fs = refl
events_after-append s (e ∷ es) fs = grind (arith, append_assoc, events_after-append (moves s e).state es fs)

pub kept_after-append : (s : State) (es fs : List Entry) → kept_after s (es ++ fs) ≡ kept_after s es ++ kept_after (state_after s es) fs
kept_after-append s [] fs = refl
kept_after-append s (e ∷ es) fs = grind (arith, kept_after-append (moves s e).state es fs)

-- By one entry

pub state-entry : (head : Head) (es : List Entry) (e : Entry) → state head (es ++ e ∷ []) ≡ (moves (state head es) e).state
state-entry head es e = state_after-append (opening head) es (e ∷ [])

pub events-entry : (head : Head) (es : List Entry) (e : Entry) → events head (es ++ e ∷ []) ≡ events head es ++ (moves (state head es) e).events
events-entry head es e = events_after-append (opening head) es (e ∷ []) ∙ ap (λ xs. events head es ++ xs) (append-nil (moves (state head es) e).events)

pub kept-entry : (head : Head) (es : List Entry) (e : Entry) → kept head (es ++ e ∷ []) ≡ kept head es ++ keeps (refusal (state head es) e.pid) e []
kept-entry head es e = kept_after-append (opening head) es (e ∷ [])
