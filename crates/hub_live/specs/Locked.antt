-- What contracts see of a locked hub: a hub, and for each process an answer that may wait to be picked
-- up. Where a step ends the call of another process, the answer waits until that process takes it.
use Rattle.std.specs.Prelude.{◌≡◌, ◌<◌, ◌==◌, ℕ, false, List, [], ◌∷◌, length, map, replicate, filter}
use Rattle.std.specs.Prelude.{Option, None, Some, IfSome, slice_index_or, slice_set, if◌then◌else◌}
use Rattle.std.specs.Prelude.{Result, IfOk, IfErr, OnErr}
use Rattle.hub_base.specs.declared.head.Head.{Head}
use Rattle.hub_base.specs.declared.value.Pid.{Pid}
use Rattle.hub_base.specs.Entry.{Entry}
use Rattle.hub_base.specs.declared.event.Event.{Event}
use Rattle.hub_base.specs.declared.fault.Fault.{Fault}
use Rattle.hub_base.specs.Notation.{done}
use Rattle.hub_base.specs.declared.limits.TheConstants.{MOST_PROCS}
use Rattle.hub_base.specs.Steps.{is_waiting}
use Rattle.hub_laws.specs.Journals.{IsLegal}
use Rattle.hub_laws.specs.Replies.{is_parked, reply, last_from}
use Rattle.hub_base.specs.Runs.{state}
use Rattle.hub_core.specs.HubView.{HubView, Refuses, Steps}

-- a hub, and the answers that wait
pub record LockedView : Type 0 where
  pub hub : HubView
  -- for each number that a process may have the answer that waits for that process, if one does
  pub answers : List (Option Event)
  -- what the last step that was made here was answered; before the first here, that process 0 is done
  pub last : Event
  -- whose calls that step ended, in the order in which they were told
  pub ended : List Pid

-- the answer that waits for process q, if one does
abbrev pub answer_for : List (Option Event) → ℕ → Option Event
answer_for answers q = slice_index_or answers q None

-- a hub for which no answer waits, and at which no step was made with it
abbrev pub none_waits : HubView → LockedView
none_waits hub = record { hub = hub; answers = replicate MOST_PROCS None; last = done 0; ended = [] }

-- ---- what every locked hub keeps

-- after these entries the event is the reply of process q, and q has no open call
pub record IsReplyTo (h : Head) (q : ℕ) (es : List Entry) (x : Event) : Type 0 where
  pub reply : reply q h es ≡ Some x
  pub free : is_waiting (state h es) q ≡ false

-- an answer that waits is its process's reply. So none waits for a process that has an open call
abbrev pub AreReplies : Head → List Entry → List (Option Event) → Type 0
AreReplies h es answers = (q : ℕ) → IfSome (answer_for answers q) (IsReplyTo h q es)

-- the journal is legal, and what waits are replies
pub record IsLawful (hub : HubView) (answers : List (Option Event)) : Type 0 where
  pub legal : IsLegal hub.terms.head hub.journal
  pub places : length answers ≡ MOST_PROCS
  pub replies : AreReplies hub.terms.head hub.journal answers

-- ---- a step

-- the last of these events that is of process q, and where there is none what there was before
abbrev pub last_told : ℕ → Option Event → List Event → Option Event
last_told q before xs = last_from before (filter (λ x. x.pid.0 == q) xs)

-- what waits for process q after a step of this caller that ended these calls: the last event of q
-- among them, or else what waited before, but for the caller nothing
abbrev pub answer_after : List (Option Event) → Pid → List Event → ℕ → Option Event
answer_after answers caller ended q =
    last_told q (if caller.0 == q then None else answer_for answers q) ended

-- the processes of these events
abbrev pub pids_of : List Event → List Pid
pids_of xs = map (λ x. x.pid) xs

-- a step that was made: what the hub leaves and tells, which is the answer and then the calls that
-- ended; what waits for each process; where the answer lies; and whose calls those are
pub record Serves (old : LockedView) (e : Entry) (new : LockedView) (answer : Event) : Type 0 where
  pub ended : List Event
  pub step : Steps old.hub e new.hub (answer ∷ ended)
  pub places : length new.answers ≡ MOST_PROCS
  pub answers :
      (q : ℕ) → q < MOST_PROCS → answer_for new.answers q ≡ answer_after old.answers e.pid ended q
  pub last : new.last ≡ answer
  pub pids : new.ended ≡ pids_of ended

-- a step of the locked hub that was made or refused, and what is answered. An answer that is not `Parked` is
-- the process's reply
pub record ServesStep (old : LockedView) (e : Entry) (new : LockedView) (result : Result Event Fault) : Type 0 where
  pub ok : IfOk result (λ answer. Serves old e new answer)
  pub reply : IfOk result (λ answer. is_parked answer.what ≡ false →
      IsReplyTo new.hub.terms.head e.pid.0 new.hub.journal answer)
  pub refused : IfErr result (λ f. Refuses old.hub e f)
  pub unchanged : OnErr result (new ≡ old)

-- ---- an answer is taken

-- nothing waits for process q any longer, and all else is as before
abbrev pub without_answer : LockedView → ℕ → LockedView
without_answer l q =
    record { hub = l.hub; answers = slice_set l.answers q None; last = l.last; ended = l.ended }
