-- What a call promises of what its seat has then seen.
use Rattle.std.specs.Prelude.{◌≡◌, ◌<◌, ◌≤◌, ◌++◌, ◌∷◌, ◌+◌, [], ℕ, true, false, List, None, Some, Result, IfOk, IfErr, OnOk, OnErr, All}
use mathlib.Core.List.{IsPrefix}
use Rattle.hub_base.specs.declared.value.Pid.{Pid}
use Rattle.hub_base.specs.Entry.{Entry, Step}
use Rattle.hub_base.specs.declared.entry.Step.TheVariants.{Call}
use Rattle.hub_base.specs.declared.event.Event.{Event}
use Rattle.hub_base.specs.declared.event.What.{What}
use Rattle.hub_base.specs.declared.fault.Fault.{Fault}
use Rattle.hub_base.specs.declared.fault.Fault.TheVariants as fault
use Rattle.hub_base.specs.Head.{AreOf}
use Rattle.hub_base.specs.Journal.{JournalView}
use Rattle.hub_base.specs.Reading.{is_exit}
use Rattle.hub_base.specs.Steps.{has_gone, is_waiting, refusal, tells}
use Rattle.hub_base.specs.Runs.{state}
use Rattle.hub_base.specs.Text.{steps_of}
use Rattle.hub_laws.specs.Answers.{is_answer_to}
use Rattle.hub_laws.specs.Journals.{IsLegal}
use Rattle.hub_laws.specs.Replies.{own, reply, is_parked}
use Rattle.hub_core.specs.declared.terms.Terms.{Terms}
use Rattle.hub_core.specs.HubView.{Refuses}
use Rattle.hub_live.specs.Locked.{IsReplyTo, LockedView, Serves}
use Rattle.hub_live.specs.Name.{Name}
use Rattle.hub_live.specs.Rule.{IsHistory}
use Rattle.hub_live.specs.SeatView.{SeatView, IsIdle, own_of, reply_to}

-- an answer that is not `Parked` is the process's reply
abbrev pub Tells : Terms → Pid → List Entry → Event → Type 0
Tells t pid seen x = is_parked x.what ≡ false → IsReplyTo t.head pid.0 seen x

-- what was seen leaves room: the entry is an exit, or fewer than `limit` entries are no exits
abbrev pub LeavesRoom : Terms → Entry → List Entry → Type 0
LeavesRoom t e seen = is_exit e.step ≡ false → steps_of seen < t.limit

-- what was seen shows why an entry is refused: the journal is full, or its process has exited; or else
-- neither is so and it is no exit, and then memory was refused, which nothing that was seen can show. The
-- tests stand in the order of these lines
abbrev pub Shows : Terms → Entry → List Entry → Fault → Type 0
Shows t e seen fault.JournalFull = (is_exit e.step ≡ false) × (steps_of seen ≡ t.limit)
Shows t e seen fault.Gone =
    LeavesRoom t e seen × (has_gone (state t.head seen) e.pid.0 ≡ true)
Shows t e seen fault.NoMemory =
    (is_exit e.step ≡ false) × (steps_of seen < t.limit)
    × (refusal (state t.head seen) e.pid ≡ None)
Shows t e seen other = ⊥

-- between two beginnings of the journal the process made no entry; its last answer is the same, and
-- it has no open call
pub record AsksNothing (t : Terms) (pid : Pid) (before seen : List Entry) : Type 0 where
  pub own : own pid.0 seen ≡ own pid.0 before
  pub reply : reply pid.0 t.head seen ≡ reply pid.0 t.head before
  pub free : is_waiting (state t.head seen) pid.0 ≡ false

-- ---- what a call leaves in its seat

-- the same seat, which has seen no less, and is idle again
pub record Later (s t : SeatView) : Type 0 where
  pub hub : t.hub ≡ s.hub
  pub pid : t.pid ≡ s.pid
  pub begins : IsPrefix s.seen t.seen
  pub idle : IsIdle t

-- the entry is the one more of its process, and the event its reply
pub record MadeEntry (s t : SeatView) (e : Entry) (x : Event) : Type 0 where
  pub own : own_of t ≡ own_of s ++ e ∷ []
  pub reply : reply_to t ≡ Some x
  pub ended : is_parked x.what ≡ false

-- the process of a seat asked nothing more
abbrev pub AskedNothing : SeatView → SeatView → Type 0
AskedNothing s t = AsksNothing s.hub.terms s.pid s.seen t.seen

-- no entry was made
pub record RefusedEntry (s t : SeatView) (e : Entry) (f : Fault) : Type 0 where
  pub same : AskedNothing s t
  pub shows : Shows t.hub.terms e t.seen f

-- a step of a seat's process that was made or refused: what it leaves under the lock and in the seat, and what is
-- answered. The seat has then seen the whole journal
pub record ServesSeat
    (name : Name) (old : LockedView) (s : SeatView) (e : Entry) (new : LockedView) (t : SeatView) (result : Result Event Fault) : Type 0 where
  pub same : (t.hub ≡ s.hub) × (t.pid ≡ s.pid)
  pub seen : t.seen ≡ new.hub.journal
  pub history : IsHistory name.terms t.seen
  pub begins : IsPrefix s.seen t.seen
  pub ok : IfOk result (λ answer. Serves old e new answer)
  pub own : OnOk result (own_of t ≡ own_of s ++ e ∷ [])
  pub told : IfOk result (λ x. Tells name.terms e.pid t.seen x)
  pub refused : IfErr result (λ f. Refuses old.hub e f)
  pub shows : IfErr result (λ f. Shows name.terms e t.seen f)
  pub left : OnErr result (AskedNothing s t)
  pub unchanged : OnErr result (new ≡ old)

-- a step of a seat's process was made, and has ended with this answer: nothing else was asked, and the event is the
-- process's reply
pub record HasEnded (name : Name) (s t : SeatView) (x : Event) : Type 0 where
  pub same : (t.hub ≡ s.hub) × (t.pid ≡ s.pid)
  pub told : IsReplyTo name.terms.head s.pid.0 t.seen x
  pub history : IsHistory name.terms t.seen
  pub begins : IsPrefix s.seen t.seen
  pub own : own_of t ≡ own_of s

-- the entry of a seat's process with this step
abbrev pub entry_of : SeatView → Step → Entry
entry_of s step = record { pid = s.pid; step = step }

-- the process made the step, and the event is the reply
abbrev pub Made : SeatView → SeatView → Step → Event → Type 0
Made s t step x = MadeEntry s t (entry_of s step) x

-- the process made the step, and was told this
abbrev pub Told : SeatView → SeatView → Step → What → Type 0
Told s t step told = Made s t step (tells s.pid told)

-- the step was refused, and no entry was made
abbrev pub Refused : SeatView → SeatView → Step → Fault → Type 0
Refused s t step f = RefusedEntry s t (entry_of s step) f

-- the event is the process's answer to this step
abbrev pub Answers : Pid → Step → Event → Type 0
Answers pid step x = (x.pid ≡ pid) × (is_answer_to step x.what ≡ true)

-- so is the event of a step that is no call; that of a call may be the answer that ended its wait
abbrev pub AnswersNoCall : Pid → Step → Event → Type 0
AnswersNoCall pid (Call cases default word) x = Unit {0}
AnswersNoCall pid step x = Answers pid step x

-- ---- the seats of a hub

-- seats of processes in order from this one on, none of which has seen anything
abbrev pub AreSeats : Name → ℕ → List SeatView → Type 0
AreSeats name first [] = Unit {0}
AreSeats name first (s ∷ ss) =
    (s ≡ record { hub = name; pid = record { 0 = first }; seen = [] })
    × AreSeats name (first + 1) ss

-- the journal begins with what the seat has seen, and its process asked nothing more in it
pub record StandsIn (s : SeatView) (journal : List Entry) : Type 0 where
  pub begins : IsPrefix s.seen journal
  pub same : AsksNothing s.hub.terms s.pid s.seen journal

-- the journal that the hub of this name ends in, where these seats are handed in
pub record EndsIn (name : Name) (handed_in : List SeatView) (journal : JournalView) : Type 0 where
  pub head : journal.head ≡ name.terms.head
  pub legal : IsLegal journal.head journal.entries
  pub fits : AreOf journal.head.edition journal.entries
  pub few : steps_of journal.entries ≤ name.terms.limit
  pub seats : All (λ s. StandsIn s journal.entries) handed_in
