-- What contracts see of a hub that never ends, which chapters explain it, and what a step of it does.
use Rattle.std.specs.Prelude.{◌≡◌, ◌<◌, ℕ, false, List, [], ◌∷◌, ◌++◌, length}
use Rattle.std.specs.Prelude.{Option, None, Result, IfOk, IfErr, OnErr, true, replicate, slice_set, if◌then◌else◌}
use Rattle.hub_base.specs.Entry.{Entry}
use Rattle.hub_base.specs.declared.event.Event.{Event}
use Rattle.hub_base.specs.declared.fault.Fault.{Fault}
use Rattle.hub_base.specs.declared.limits.TheConstants.{MOST_PROCS}
use Rattle.hub_base.specs.declared.value.Pid.{Pid}
use Rattle.hub_laws.specs.Replies.{is_parked}
use Rattle.hub_chapters.specs.Chapters.{Chapters, history}
use Rattle.hub_chapters.specs.Chapters.Chapters.{Cut}
use Rattle.hub_cut.specs.Recorder.{GoesOn, RecorderView, Records, RefusesStep, begins, head_of_all, with_next}
use Rattle.hub_live.specs.Locked.{AreReplies, IsReplyTo, answer_after, answer_for, pids_of}

-- a recorder, and the answers that wait
pub record EndlessView : Type 0 where
  pub recorder : RecorderView
  -- for each number that a process may have the answer that waits for that process, if one does
  pub answers : List (Option Event)
  -- what the last step that was made was answered; before the first, that process 0 is done
  pub last : Event
  -- whose calls that step ended, in the order in which they were told
  pub ended : List Pid

abbrev pub endless_view : RecorderView → List (Option Event) → Event → List Pid → EndlessView
endless_view recorder answers last ended = record { recorder = recorder; answers = answers; last = last; ended = ended }

-- the hub stands at the end of these chapters, and each answer that waits is its process's reply in their whole history
pub record Explains (chapters : Chapters) (l : EndlessView) : Type 0 where
  pub records : Records chapters l.recorder
  pub replies : AreReplies (head_of_all l.recorder) (history chapters) l.answers

-- what every hub that never ends keeps: some chapters explain it
pub record EndlessKeeps (l : EndlessView) : Type 0 where
  pub explained : (chapters : Chapters) × Explains chapters l
  pub places : length l.answers ≡ MOST_PROCS

-- no answer waits
abbrev pub NoneWaits : EndlessView → Type 0
NoneWaits l = l.answers ≡ replicate MOST_PROCS None

-- ---- a step

-- a step is told, answered and recorded as the next of the whole history. An answer that is not `Parked` is the process's
-- reply there
pub record ServesNext (chapters : Chapters) (old : EndlessView) (e : Entry) (new : EndlessView) (answer : Event) (ended : List Event) : Type 0 where
  pub goes_on : GoesOn old.recorder chapters e new.recorder (answer ∷ ended)
  pub reply : is_parked answer.what ≡ false →
      IsReplyTo (head_of_all old.recorder) e.pid.0 (history chapters ++ e ∷ []) answer
  pub explains : Explains (with_next (begins old.recorder e.step) chapters e) new

-- a step that was made: it ended these calls; what waits for each process; where the answer lies; and whose calls those are
pub record ServesMade (old : EndlessView) (e : Entry) (new : EndlessView) (answer : Event) : Type 0 where
  pub ended : List Event
  pub next : (chapters : Chapters) → Explains chapters old → ServesNext chapters old e new answer ended
  pub answers :
      (q : ℕ) → q < MOST_PROCS → answer_for new.answers q ≡ answer_after old.answers e.pid ended q
  pub last : new.last ≡ answer
  pub pids : new.ended ≡ pids_of ended
  pub terms : new.recorder.hub.terms ≡ old.recorder.hub.terms
  pub keep : new.recorder.keep ≡ old.recorder.keep
  pub early : new.recorder.early ≡ (if begins old.recorder e.step then false else old.recorder.early)

-- a step that was made or refused, and what is answered
pub record ServesOn (old : EndlessView) (e : Entry) (new : EndlessView) (result : Result Event Fault) : Type 0 where
  pub ok : IfOk result (λ answer. ServesMade old e new answer)
  pub refused : IfErr result (λ f. RefusesStep old.recorder e f)
  pub unchanged : OnErr result (new ≡ old)

-- ---- a take, and a cut

-- nothing waits for process q any longer, and all else is as before
abbrev pub without_answer : EndlessView → ℕ → EndlessView
without_answer l q =
    record { recorder = l.recorder; answers = slice_set l.answers q None; last = l.last; ended = l.ended }

-- a cut that was asked for: the chapters go on behind a checkpoint, and what waits waits on
pub record CutsNow (old new : EndlessView) : Type 0 where
  pub explains : (chapters : Chapters) → Explains chapters old → Explains (Cut chapters []) new
  pub answers : new.answers ≡ old.answers
  pub last : new.last ≡ old.last
  pub ended : new.ended ≡ old.ended
  pub terms : new.recorder.hub.terms ≡ old.recorder.hub.terms
  pub keep : new.recorder.keep ≡ old.recorder.keep
  pub early : new.recorder.early ≡ true
