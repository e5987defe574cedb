-- Which events answer, end a call, and count.
use Rattle.hub_laws.proofs.Prelude.{arith, ◌≡◌, true, false, List, [], ◌∷◌, refl, ap, not, AllByRecursion, Entry, Step, Event, What, Fault, is_answer_to}
use Rattle.hub_laws.proofs.Prelude.{IsAnswered, ends_waiting, is_busy, is_fault_of, refuses_entry, counts, is_refusal, was_admitted, ends_call, is_parked}
use Rattle.hub_base.specs.declared.event.What.TheVariants as what

-- Events of an admitted entry count but for `Parked`

pub fault_admits : (step : Step) (f : Fault) → is_fault_of step f ≡ true → refuses_entry f ≡ false
fault_admits step f e = grind arith

fault_counts : (step : Step) (f : Fault) → is_fault_of step f ≡ true → is_busy f ≡ false
fault_counts step f e = grind arith

abbrev pub Counted : Event → Type 0
Counted x = counts x.what ≡ not (is_parked x.what)

pub answer_counts : (step : Step) (w : What) → is_answer_to step w ≡ true → counts w ≡ not (is_parked w)
answer_counts step (what.Fault f) e = ap (λ b. not b) (fault_counts step f e)
answer_counts step w e = refl

-- what is known of an event that ends a call that waits
pub record EndsCall (w : What) : Type 0 where
  pub counted : counts w ≡ true
  pub clear : is_parked w ≡ false
  pub admitted : is_refusal w ≡ false
  pub ends : ends_call w ≡ true

pub waiting-ends : (w : What) → ends_waiting w ≡ true → EndsCall w
waiting-ends w e = grind arith

ended_counts : (events : List Event) → AllByRecursion (λ x. ends_waiting x.what ≡ true) events → AllByRecursion Counted events
ended_counts [] a = tt
ended_counts (x ∷ xs) a = (let h = waiting-ends x.what a.0 in rw (h.counted, h.clear) refl, ended_counts xs a.1)

pub answered_counts : (e : Entry) (events : List Event) → IsAnswered e.pid e.step events → AllByRecursion Counted events
answered_counts e [] a = absurd a
answered_counts e (x ∷ xs) a = (answer_counts e.step x.what a.fits, ended_counts xs a.ends)

-- Which entries are admitted

pub answer_admits : (step : Step) (w : What) → is_answer_to step w ≡ true → not (is_refusal w) ≡ true
answer_admits step (what.Fault f) e = ap (λ b. not b) (fault_admits step f e)
answer_admits step w e = refl

pub answered_admits : (e : Entry) (events : List Event) → IsAnswered e.pid e.step events → was_admitted events ≡ true
answered_admits e [] a = refl
answered_admits e (x ∷ xs) a = answer_admits e.step x.what a.fits
