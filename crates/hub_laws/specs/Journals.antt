-- The journal of a run holds the run's admitted entries, and is legal: a replay of it leaves the same
-- state and tells the same events, but for the faults of entries that were not admitted.
use Rattle.std.specs.Prelude.{◌≡◌, ◌++◌, not, List, [], ◌∷◌, filter, Some, None}
use Rattle.hub_base.specs.Entry.{Entry}
use Rattle.hub_base.specs.declared.head.Head.{Head}
use Rattle.hub_base.specs.declared.fault.Fault.{Fault}
use Rattle.hub_base.specs.Steps.{refusal}
use Rattle.hub_base.specs.Runs.{state, events, kept, moves}
use Rattle.hub_laws.specs.Once.{is_refusal}

-- each of these entries is admitted where it stands
abbrev pub IsLegal : Head → List Entry → Type 0
IsLegal h es = kept h es ≡ es

pub record JournalLaw (h : Head) (es : List Entry) : Type 0 where
  pub legal : IsLegal h (kept h es)
  pub state : state h (kept h es) ≡ state h es
  pub events : events h (kept h es) ≡ filter (λ x. not (is_refusal x.what)) (events h es)

-- a further entry does after the journal what it does after the run, and joins the journal where it
-- is admitted
pub record Grows (h : Head) (es : List Entry) (e : Entry) : Type 0 where
  pub refused_alike : refusal (state h (kept h es)) e.pid ≡ refusal (state h es) e.pid
  pub moves_alike : moves (state h (kept h es)) e ≡ moves (state h es) e
  pub admitted : refusal (state h es) e.pid ≡ None → kept h (es ++ e ∷ []) ≡ kept h es ++ e ∷ []
  pub refused : (f : Fault) → refusal (state h es) e.pid ≡ Some f → kept h (es ++ e ∷ []) ≡ kept h es

-- a legal journal goes on just by an entry that is admitted, and each beginning of it is legal
pub record Begins (h : Head) (es fs : List Entry) : Type 0 where
  pub legal : IsLegal h (es ++ fs) → IsLegal h es
  pub next : (e : Entry) → IsLegal h (es ++ e ∷ fs) → refusal (state h es) e.pid ≡ None
  pub goes_on : (e : Entry) → IsLegal h es → refusal (state h es) e.pid ≡ None → IsLegal h (es ++ e ∷ [])
