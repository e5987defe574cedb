-- Lists of entries after two states that are alike.
use Rattle.hub_laws.proofs.Prelude.{List, [], ◌∷◌, ◌++◌, refl, ap, ◌∙◌, Option, Entry, Fault, Head, Event, State, moves, state, events_after}
use Rattle.hub_laws.proofs.Prelude.{kept_after, keeps, refusal, IsSound}
use Rattle.hub_laws.proofs.Rules.{moves-sound, state-sound}
use Rattle.hub_chapters.specs.Alike.{Alike, GoOnAlike, AlikeLaw}
use Rattle.hub_chapters.proofs.Steps.{moves-like, refusal-like}

pub goes-on : (s t : State) (es : List Entry) → IsSound s → IsSound t → Alike s t → GoOnAlike s t es
goes-on s t [] sound sound' a = record { events = refl; kept = refl; alike = a }
goes-on s t (e ∷ es) sound sound' a =
    let one = moves-like s t e sound sound' a in
    let rest = goes-on (moves s e).state (moves t e).state es (moves-sound s e sound) (moves-sound t e sound') one.alike in
    record {
      events = ap (λ (xs : List Event). xs ++ events_after (moves s e).state es) one.events ∙ ap (λ xs. (moves t e).events ++ xs) rest.events;
      kept = ap (λ (o : Option Fault). keeps o e (kept_after (moves s e).state es)) (refusal-like s t e.pid a)
          ∙ ap (λ xs. keeps (refusal t e.pid) e xs) rest.kept;
      alike = rest.alike;
    }

pub alike-law : (head : Head) (es fs later : List Entry) → AlikeLaw head es fs later
alike-law head es fs later a = goes-on (state head es) (state head fs) later (state-sound head es) (state-sound head fs) a
