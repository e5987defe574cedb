-- The answers that wait for processes, which hear the events of a step.
use Rattle.std.specs.Prelude.{◌≡◌, ◌<◌, ◌-◌, ◌++◌, ◌∷◌, ℕ, Bool, true, false, List, [], length, replicate, Option, None, Some, slice_set}
use Rattle.std.specs.List.{fold}
use Rattle.hub_base.specs.declared.value.Pid.{Pid}
use Rattle.hub_base.specs.declared.event.Event.{Event}
use Rattle.hub_base.specs.declared.head.Head.{Head}
use Rattle.hub_base.specs.Entry.{Entry}
use Rattle.hub_base.specs.Runs.{moves, state}
use Rattle.hub_base.specs.Notation.{done}
use Rattle.hub_base.specs.declared.limits.TheConstants.{MOST_EVENTS, MOST_PROCS}
use Rattle.hub_laws.specs.Replies.{is_parked}
use Rattle.hub_live.specs.Locked.{answer_after, answer_for, pids_of, AreReplies, IsReplyTo}

-- what waits for each process, what the last step that was made was answered, whether the one that is being made was answered,
-- and whose calls it has ended
pub record AnswersView : Type 0 where
  pub waiting : List (Option Event)
  pub last : Event
  pub told : Bool
  pub ended : List Pid

-- none waits
abbrev pub no_answers : AnswersView
no_answers = record { waiting = replicate MOST_PROCS None; last = done 0; told = false; ended = [] }

-- before a step
abbrev pub begun : AnswersView → AnswersView
begun a = record { waiting = a.waiting; last = a.last; told = false; ended = a.ended }

-- nothing waits for process q any longer
abbrev pub without_answer_for : AnswersView → ℕ → AnswersView
without_answer_for a q = record { waiting = slice_set a.waiting q None; last = a.last; told = a.told; ended = a.ended }

-- the first event that is heard is the answer to the step, and nothing waits for its process any longer; each that follows
-- ends the call of a process, and waits for it
abbrev pub hears_by : AnswersView → Event → Bool → AnswersView
hears_by a x false = record { waiting = slice_set a.waiting x.pid.0 None; last = x; told = true; ended = [] }
hears_by a x true =
    record { waiting = slice_set a.waiting x.pid.0 (Some x); last = a.last; told = true; ended = a.ended ++ x.pid ∷ [] }

-- one event
abbrev pub hears : AnswersView → Event → AnswersView
hears a x = hears_by a x a.told

-- these events, in order
abbrev pub hears_all : AnswersView → List Event → AnswersView
hears_all a xs = fold hears a xs

-- for how many events there is room
abbrev pub room_by : List Pid → Bool → ℕ
room_by ended false = MOST_EVENTS
room_by ended true = MOST_PROCS - length ended

-- after the events of a step: the first is the answer, which is the caller's reply unless its call waits; each place has the last
-- event of its process behind that, or else what waited there before, but for the caller nothing; and replies waited, so replies wait
pub record Heard (old : AnswersView) (h : Head) (es : List Entry) (e : Entry) (now : AnswersView) : Type 0 where
  pub ended : List Event
  pub told : (moves (state h es) e).events ≡ now.last ∷ ended
  pub places : length now.waiting ≡ length old.waiting
  pub answers : (q : ℕ) → q < length old.waiting → answer_for now.waiting q ≡ answer_after old.waiting e.pid ended q
  pub pids : now.ended ≡ pids_of ended
  pub reply : is_parked now.last.what ≡ false → IsReplyTo h e.pid.0 (es ++ e ∷ []) now.last
  pub replies : AreReplies h es old.waiting → AreReplies h (es ++ e ∷ []) now.waiting
