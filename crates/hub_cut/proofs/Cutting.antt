-- A cut, and a step behind it.
use Rattle.hub_laws.proofs.Prelude.{◌≡◌, None, refusal, List, [], ◌∷◌, ◌++◌, ap, ◌∙◌, sym, ◌<◌, arith, append-nil, Entry, Event, moves, steps_of}
use Rattle.hub_core.specs.HubView.{HubView, Steps, state_of}
use Rattle.hub_chapters.specs.Checkpoint.{most_steps}
use Rattle.hub_chapters.proofs.Checkpoints.{checkpoint-law}
use Rattle.hub_chapters.proofs.Steps.{refusal-like}
use Rattle.hub_cut.specs.Cut.{CutsAndSteps, IsCut}

-- there is room behind the checkpoint
pub few_behind : (old new : HubView) → IsCut old new → most_steps old.terms.head < old.terms.limit → steps_of new.journal < new.terms.limit
few_behind old new is room = rw is.hub (omega (arith, (checkpoint-law old.terms.head old.journal).few_steps, room))

-- who was admitted still is
pub admitted_behind : (old new : HubView) (e : Entry) → IsCut old new → refusal (state_of old) e.pid ≡ None → refusal (state_of new) e.pid ≡ None
admitted_behind old new e is admitted = refusal-like (state_of new) (state_of old) e.pid is.alike ∙ admitted

-- the step is admitted and told as before the cut
pub steps_behind : (old new after : HubView) (e : Entry) (told : List Event) → IsCut old new → Steps new e after told → CutsAndSteps old e after told
steps_behind old new after e told is s = record {
  admitted = sym (refusal-like (state_of new) (state_of old) e.pid is.alike) ∙ s.admitted;
  events = s.events
      ∙ sym (append-nil (moves (state_of new) e).events)
      ∙ (is.follows (e ∷ [])).events
      ∙ append-nil (moves (state_of old) e).events;
  journal = ap (λ (h : HubView). h.journal) s.journal ∙ ap (λ (h : HubView). h.journal ++ e ∷ []) is.hub;
  terms = ap (λ (h : HubView). h.terms) s.journal ∙ ap (λ (h : HubView). h.terms) is.hub;
}
