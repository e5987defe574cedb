-- An admitted entry is answered first, and any other changes nothing.
use Rattle.hub_laws.proofs.Prelude.{arith, ◌≡◌, List, sym, subst, None, Entry, Head, admits, moves, state, State, refusal, IsAnswered, AnswersLaw}
use Rattle.hub_laws.proofs.Prelude.{PassedOverLaw}
use Rattle.hub_laws.proofs.Entries.{turn-answered}

-- in any state
pub moves-answered : (s : State) (e : Entry) → refusal s e.pid ≡ None → IsAnswered e.pid e.step (moves s e).events
moves-answered s e is = subst (λ o. IsAnswered e.pid e.step (admits s e o).events) (sym is) (turn-answered s e)

pub answers-law : (head : Head) (es : List Entry) (e : Entry) → AnswersLaw head es e
answers-law head es e is = moves-answered (state head es) e is

pub passed_over-law : (head : Head) (es : List Entry) (e : Entry) → PassedOverLaw head es e
passed_over-law head es e f is = grind arith
