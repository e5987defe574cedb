-- What a step of C does and tells, and how an answer that waits is taken.
use Rattle.std.specs.Prelude.{◌≡◌, ◌⊎◌, ℕ, Bool, true, false, Option, None, Some, Result, IfSome, IfOk, IfErr, OnOk, OnErr, MatchBool}
use Rattle.std.specs.Option.{option_map}
use Rattle.hub_base.specs.Entry.{Entry}
use Rattle.hub_base.specs.declared.event.Event.{Event}
use Rattle.hub_base.specs.declared.fault.Fault.{Fault}
use Rattle.hub_base.specs.declared.fault.Fault.TheVariants as fault
use Rattle.hub_base.specs.Head.{is_of}
use Rattle.hub_core.specs.HubView.{ShortInMemory}
use Rattle.hub_chapters.specs.Chapters.{Chapters, history}
use Rattle.hub_cut.specs.Recorder.{RefusesStep, begins, chapter_out, head_of_all, hub_in, out_or}
use Rattle.hub_served.specs.Endless.{EndlessView, Explains, ServesMade}
use Rattle.hub_served.specs.Endless as endless
use Rattle.hub_served.specs.declared.not_made.NotMade.{NotMade}
use Rattle.hub_served.specs.Follow.{FollowView, FollowsStep, with_locked}
use Rattle.hub_live.specs.Locked.{IsReplyTo, ServesStep, answer_for, without_answer}
use Rattle.hub_session.specs.declared.session.Opened.{Opened}
use Rattle.hub_session.specs.declared.session.Opened.TheVariants.{Limited, Endless, Following}
use Rattle.hub_session.specs.declared.session.Session.{Session}
use Rattle.hub_session.specs.declared.structs.ToldC.{ToldC}
use Rattle.hub_session.specs.Hubs.{ended_in, head_in, is_there}
use Rattle.hub_session.specs.Tells.{answer_told, bad_call, bits_of, came_told, follow_told}

-- chapters wait to be read where they are handed out; else they go
abbrev pub held : {A : Type 0} → Bool → Option A → Option A
held true chapter = chapter
held false chapter = None

-- ---- a step of a hub
-- why a hub that never ends refuses a step: as it says, or since the chapter that the step would hand out would follow one
-- that still waits to be read
abbrev pub RefusesOut : EndlessView → Option ShortInMemory → Entry → Fault → Type 0
RefusesOut l waited e f =
    RefusesStep l.recorder e f ⊎ ((f ≡ fault.NoMemory) × (begins l.recorder e.step ≡ true) × ¬ (waited ≡ None))

-- a step of a hub that never ends, which made it or refused it
pub record ServesOut (hands_out : Bool) (was : EndlessView) (waited : Option ShortInMemory) (e : Entry) (now : EndlessView)
    (waits : Option ShortInMemory) (came : Result Event Fault) : Type 0 where
  pub ok : IfOk came (λ answer. ServesMade was e now answer)
  pub handed_out : OnOk came (option_map hub_in waits ≡ held hands_out (out_or (chapter_out was.recorder e.step) (option_map hub_in waited)))
  -- so none is lost: where one is handed out, none had waited
  pub kept : OnOk came (begins was.recorder e.step ≡ true → waited ≡ None)
  pub refused : IfErr came (λ f. RefusesOut was waited e f)
  pub unchanged : OnErr came ((now ≡ was) × (waits ≡ waited))

-- a step of one of these
abbrev pub ServesHub : Bool → Opened → Option ShortInMemory → Entry → Opened → Option ShortInMemory → Result Event Fault → Type 0
ServesHub hands_out (Limited was) waited e (Limited now) waits came = ServesStep was e now came × (waits ≡ waited)
ServesHub hands_out (Endless was) waited e (Endless now) waits came = ServesOut hands_out was waited e now waits came
ServesHub hands_out was waited e now waits came = ⊥

-- it made the step or refused it, and that is told
pub record Serves (hands_out : Bool) (was : Opened) (waited : Option ShortInMemory) (e : Entry) (now : Opened)
    (waits : Option ShortInMemory) (told : ToldC) : Type 0 where
  pub came : Result Event Fault
  pub serves : ServesHub hands_out was waited e now waits came
  pub tells : told ≡ came_told came (bits_of (ended_in now)) (is_there waits)

-- a hub that follows a journal made the step or not, and that is told
pub record ServesFollowing (was : FollowView) (e : Entry) (now : FollowView) (told : ToldC) : Type 0 where
  pub came : Result Event NotMade
  pub follows : FollowsStep was e now came
  pub tells : told ≡ follow_told came (bits_of now.locked.ended)

-- a step of a hub as it was opened
abbrev pub ServesOpened : Bool → Opened → Option ShortInMemory → Entry → Opened → Option ShortInMemory → ToldC → Type 0
ServesOpened hands_out (Following was) waited e (Following now) waits told = ServesFollowing was e now told × (waits ≡ waited)
ServesOpened hands_out was waited e now waits told = Serves hands_out was waited e now waits told

-- ---- a step of C
pub record ServesIn (was : Session) (e : Entry) (now : Session) (told : ToldC) : Type 0 where
  pub hub : ServesOpened was.hands_out was.hub was.chapter e now.hub now.chapter told
  pub hands_out : now.hands_out ≡ was.hands_out

-- nothing is done
abbrev pub Refuses : {A : Type 0} → A → A → ToldC → Type 0
Refuses was now told = (now ≡ was) × (told ≡ bad_call)

-- a step, where the hub's edition has it
abbrev pub StepsIn : Session → Entry → Session → ToldC → Type 0
StepsIn was e now told = MatchBool (is_of (head_in was.hub).edition e.step) (ServesIn was e now told) (Refuses was now told)

-- the same of what C asks for, where that is a step
abbrev pub StepsSaid : Session → Option Entry → Session → ToldC → Type 0
StepsSaid was None now told = Refuses was now told
StepsSaid was (Some e) now told = StepsIn was e now told

-- what is done where there is a hub; nothing, where there is none
abbrev pub Within : (Session → Session → ToldC → Type 0) → Option Session → Option Session → ToldC → Type 0
Within Does None now told = (now ≡ None) × (told ≡ bad_call)
Within Does (Some was) None told = ⊥
Within Does (Some was) (Some now) told = Does was now told

-- a step of whoever has a hub
abbrev pub Steps : Option Session → Option Entry → Option Session → ToldC → Type 0
Steps was e now told = Within (λ s t told. StepsSaid s e t told) was now told

-- ---- a take
-- the answer that waited for process q, which waits no longer. It is the process's reply; in a hub that never ends, that of
-- the whole history
abbrev pub TakesHub : Opened → ℕ → Opened → Option Event → Type 0
TakesHub (Limited was) q (Limited now) answer =
    (answer ≡ answer_for was.answers q) × (now ≡ without_answer was q)
    × IfSome answer (IsReplyTo was.hub.terms.head q was.hub.journal)
TakesHub (Endless was) q (Endless now) answer =
    (answer ≡ answer_for was.answers q) × (now ≡ endless.without_answer was q)
    × ((chapters : Chapters) → Explains chapters was → IfSome answer (IsReplyTo (head_of_all was.recorder) q (history chapters)))
TakesHub (Following was) q (Following now) answer =
    (answer ≡ answer_for was.locked.answers q) × (now ≡ with_locked (without_answer was.locked q) was)
    × IfSome answer (IsReplyTo was.locked.hub.terms.head q was.locked.hub.journal)
TakesHub was q now answer = ⊥

-- it is told
pub record TakesIn (q : ℕ) (was now : Session) (told : ToldC) : Type 0 where
  pub answer : Option Event
  pub takes : TakesHub was.hub q now.hub answer
  pub tells : told ≡ answer_told answer
  pub chapter : now.chapter ≡ was.chapter
  pub hands_out : now.hands_out ≡ was.hands_out

abbrev pub Takes : Option Session → ℕ → Option Session → ToldC → Type 0
Takes was q now told = Within (TakesIn q) was now told
