-- What contracts see of a hub that follows a journal, how a step stands to that journal, and what a step does.
use Rattle.std.specs.Prelude.{◌≡◌, ◌≤◌, ◌<◌, ◌+◌, ◌==◌, ◌⊎◌, ◌∷◌, ℕ, List, length, take, drop, slice_get}
use Rattle.std.specs.Prelude.{Option, None, Some, IfSome, unwrap_or, option_and_then, Result, Ok, Err, true}
use Rattle.std.specs.List.{position_from}
use Rattle.std.specs.Option.{option_map}
use Rattle.hub_base.specs.Entry.{Entry, Step}
use Rattle.hub_base.specs.declared.entry.Step.TheVariants.{Make, Call, Close, Exit, Cancel, Start, Reopen}
use Rattle.hub_base.specs.declared.event.Event.{Event}
use Rattle.hub_base.specs.declared.fault.Fault.TheVariants as fault
use Rattle.hub_base.specs.declared.limits.TheConstants.{MOST_BYTES, MOST_STEPS}
use Rattle.hub_base.specs.declared.value.Pid.{Pid}
use Rattle.hub_base.specs.Head.{AreOf, is_of}
use Rattle.hub_base.specs.Runs.{moves, state}
use Rattle.hub_base.specs.Steps.{refusal}
use Rattle.hub_base.specs.Text.{IsText, steps_of}
use Rattle.hub_laws.specs.Journals.{IsLegal}
use Rattle.hub_core.specs.HubView.{Refuses, opened_hub, state_of}
use Rattle.hub_live.specs.Locked.{LockedView, ServesStep, none_waits}
use Rattle.hub_served.specs.declared.follower.AfterDivergence.{AfterDivergence}
use Rattle.hub_served.specs.declared.follower.AfterDivergence.TheVariants.{GoesOn, Ends}
use Rattle.hub_served.specs.declared.not_made.NotMade.{NotMade}
use Rattle.hub_served.specs.declared.not_made.NotMade.TheVariants.{Refused, NotYet, Diverged}

-- a hub that follows a journal
pub record FollowView : Type 0 where
  -- the hub, and the answers that wait
  pub locked : LockedView
  -- the entries of the journal that it follows
  pub given : List Entry
  -- what it does once it has diverged
  pub after : AfterDivergence
  -- the number of the step at which it diverged, if it did
  pub diverged : Option ℕ
  -- the step that was the first to be a divergence, if one was
  pub asked : Option Entry

abbrev pub follow_view : LockedView → List Entry → AfterDivergence → Option ℕ → Option Entry → FollowView
follow_view locked given after diverged asked =
    record { locked = locked; given = given; after = after; diverged = diverged; asked = asked }

-- how many steps it has made
abbrev pub made : FollowView → ℕ
made l = length l.locked.hub.journal

-- what it has made is a beginning of the journal that it follows
abbrev pub IsBeginning : FollowView → Type 0
IsBeginning l = l.locked.hub.journal ≡ take (made l) l.given

-- a journal of its edition can have this entry
abbrev pub IsOfIts : FollowView → Entry → Type 0
IsOfIts l e = is_of l.locked.hub.terms.head.edition e.step ≡ true

-- what every such hub keeps: the journal that it follows is legal and of its edition, and the hub has room for it; and as long
-- as nothing has diverged, what it has made is a beginning of that
pub record FollowKeeps (l : FollowView) : Type 0 where
  pub legal : IsLegal l.locked.hub.terms.head l.given
  pub fits : AreOf l.locked.hub.terms.head.edition l.given
  pub asked_fits : IfSome l.asked (IsOfIts l)
  pub room : steps_of l.given ≤ l.locked.hub.terms.limit
  pub few : length l.given ≤ MOST_BYTES
  pub begins : l.diverged ≡ None → IsBeginning l

-- it follows the journal of this text, and nothing has happened
pub record FollowsAnew (text : List ℕ) (after : AfterDivergence) (l : FollowView) : Type 0 where
  pub spelled : IsText text l.locked.hub.terms.head l.given
  pub legal : IsLegal l.locked.hub.terms.head l.given
  pub limit : l.locked.hub.terms.limit ≡ MOST_STEPS
  pub nothing : l.locked ≡ none_waits (opened_hub l.locked.hub.terms)
  pub after_is : l.after ≡ after
  pub none : l.diverged ≡ None
  pub unasked : l.asked ≡ None

-- ---- whose turn it is

-- this step, with that choice word in place of its own if it is a call
abbrev pub step_with : ℕ → Step → Step
step_with word (Call cases default own) = Call cases default word
step_with word (Make cap) = Make cap
step_with word (Close p) = Close p
step_with word Exit = Exit
step_with word (Cancel q) = Cancel q
step_with word (Start q) = Start q
step_with word (Reopen p cap) = Reopen p cap

-- this entry, with that choice word in place of its own if it is a call
abbrev pub with_word : ℕ → Entry → Entry
with_word word e = record { pid = e.pid; step = step_with word e.step }

-- the journal has this entry at this place, counted from 0, with its own choice word or another
abbrev pub IsAt : FollowView → Entry → ℕ → Type 0
IsAt l e place = (word : ℕ) × (slice_get l.given place ≡ Some (with_word word e))

-- the place of a process's next entry in the journal: the first that is not made yet and is of this process
abbrev pub turn_of : FollowView → Pid → Option ℕ
turn_of l pid = position_from (λ e. e.pid.0 == pid.0) (made l) (drop (made l) l.given)

-- all of the journal is made
abbrev pub IsOver : FollowView → Type 0
IsOver l = length l.given ≤ made l

-- what there is, unless it has diverged
abbrev pub unless : {A : Type 0} → Option ℕ → Option A → Option A
unless None there = there
unless (Some number) there = None

-- whose step is next, while it follows
abbrev pub next_of : FollowView → Option Pid
next_of l = unless l.diverged (option_map (λ e. e.pid) (slice_get l.given (made l)))

-- the entry at this place, with its number, from 1
abbrev pub numbered : List Entry → ℕ → Option (ℕ × Entry)
numbered es place = option_map (λ e. (place + 1, e)) (slice_get es place)

-- a process's next entry in the journal, with its number, while it follows
abbrev pub step_of : FollowView → Pid → Option (ℕ × Entry)
step_of l pid = unless l.diverged (option_and_then (numbered l.given) (turn_of l pid))

-- ---- how a step stands to the journal

-- the hub admits steps of its process
abbrev pub IsAdmitted : FollowView → Entry → Type 0
IsAdmitted l e = refusal (state_of l.locked.hub) e.pid ≡ None

-- this is the journal's next entry, choice word and all
pub record IsDue (l : FollowView) (e : Entry) : Type 0 where
  pub following : l.diverged ≡ None
  pub at : slice_get l.given (made l) ≡ Some e

-- it is the next step of the journal, with its own choice word or another
abbrev pub IsNext : FollowView → Entry → Type 0
IsNext l e = (word : ℕ) × IsDue l (with_word word e)

-- its turn may come: it is the process's next, and others come first; or the process has none, and others have
pub record IsEarly (l : FollowView) (e : Entry) : Type 0 where
  pub admitted : IsAdmitted l e
  pub following : l.diverged ≡ None
  pub left : made l < length l.given
  pub later : IfSome (turn_of l e.pid) (λ place. (made l < place) × IsAt l e place)

-- another step is the process's next, and this is its number, from 1
pub record IsOther (l : FollowView) (e : Entry) (number : ℕ) : Type 0 where
  pub admitted : IsAdmitted l e
  pub following : l.diverged ≡ None
  pub place : ℕ
  pub turn : turn_of l e.pid ≡ Some place
  pub other : ¬ IsAt l e place
  pub numbered : number ≡ place + 1

-- it no longer follows: it has diverged, or all of the journal is made
abbrev pub IsFree : FollowView → Type 0
IsFree l = l.diverged ≡ None → IsOver l

-- the number of the step at which it diverged; if it has not yet, of the one behind the journal's last
abbrev pub number_of : FollowView → ℕ
number_of l = unwrap_or l.diverged (length l.given + 1)

-- the hub makes the step or refuses it: one that it does not admit, the next of the journal, and any if it goes on freely
abbrev pub IsLet : FollowView → Entry → Type 0
IsLet l e = (¬ IsAdmitted l e) ⊎ (IsNext l e ⊎ (IsFree l × (l.after ≡ GoesOn)))

-- the step is a divergence: it is not the process's next, or comes after the end of a hub that then ends
abbrev pub Diverges : FollowView → Entry → ℕ → Type 0
Diverges l e number =
    IsOther l e number ⊎ (IsAdmitted l e × IsFree l × (l.after ≡ Ends) × (number ≡ number_of l))

-- ---- a step

-- this locked hub in place of its own
abbrev pub with_locked : LockedView → FollowView → FollowView
with_locked locked l = record l { locked = locked }

-- it has diverged at the step of this number
abbrev pub diverged_at : ℕ → FollowView → FollowView
diverged_at number l = record l { diverged = Some number }

-- this step is a divergence; one that was before stays the first
abbrev pub first_asked : Option Entry → Entry → Option Entry
first_asked None e = Some e
first_asked (Some first) e = Some first

-- it has diverged at the step of this number, as this one was asked for
abbrev pub diverged_by : Entry → ℕ → FollowView → FollowView
diverged_by e number l = record l { diverged = Some number; asked = first_asked l.asked e }

-- it is the next step, and was made as the journal has it
pub record GoesOnward (old : FollowView) (e : Entry) (new : FollowView) (answer : Event) : Type 0 where
  pub next : IsNext old e
  pub given : Entry
  pub due : IsDue old given
  pub serves : ServesStep old.locked given new.locked (Ok answer)
  pub stays : new ≡ with_locked new.locked old

-- it is free, and was made as it came, and the hub has diverged
pub record GoesFreely (old : FollowView) (e : Entry) (new : FollowView) (answer : Event) : Type 0 where
  pub free : IsFree old
  pub goes_on : old.after ≡ GoesOn
  pub serves : ServesStep old.locked e new.locked (Ok answer)
  pub stays : new ≡ diverged_at (number_of old) (with_locked new.locked old)

-- what a step comes to
abbrev pub Does : FollowView → Entry → FollowView → Result Event NotMade → Type 0
Does old e new (Ok answer) = GoesOnward old e new answer ⊎ GoesFreely old e new answer
Does old e new (Err (Refused f)) = IsLet old e × Refuses old.locked.hub e f × (new ≡ old)
Does old e new (Err NotYet) = IsEarly old e × (new ≡ old)
Does old e new (Err (Diverged number)) = Diverges old e number × (new ≡ diverged_by e number old)

-- the answer is the one that the journal has recorded: the first event of its next entry, when the journal is made again
pub record IsRecorded (l : FollowView) (answer : Event) : Type 0 where
  pub next : Entry
  pub is_next : slice_get l.given (made l) ≡ Some next
  pub ended : List Event
  pub told : (moves (state l.locked.hub.terms.head (take (made l) l.given)) next).events ≡ answer ∷ ended

-- so the next step is answered, or memory is refused
abbrev pub AnswersNext : FollowView → Result Event NotMade → Type 0
AnswersNext l (Ok answer) = IsRecorded l answer
AnswersNext l (Err why) = why ≡ Refused fault.NoMemory

-- what a step does and tells
pub record FollowsStep (old : FollowView) (e : Entry) (new : FollowView) (result : Result Event NotMade) : Type 0 where
  pub does : Does old e new result
  -- as long as nothing has diverged, what was made is a beginning of the journal that it follows
  pub begins : new.diverged ≡ None → IsBeginning new
  pub next : IsNext old e → AnswersNext old result
