-- A journal that was cut, as often as one likes: each chapter but the first begins with the checkpoint of the
-- state at the end of the one before.
use Rattle.std.specs.Prelude.{◌≡◌, ◌++◌, List}
use Rattle.hub_base.specs.Entry.{Entry}
use Rattle.hub_base.specs.declared.event.Event.{Event}
use Rattle.hub_base.specs.declared.head.Head.{Head}
use Rattle.hub_base.specs.Runs.{state, events, events_after}
use Rattle.hub_laws.specs.Journals.{IsLegal}
use Rattle.hub_chapters.specs.Alike.{Alike, GoOnAlike}
use Rattle.hub_chapters.specs.Checkpoint.{checkpoint}

-- the first chapter, or chapters that were cut, and the entries that followed
pub data Chapters : Type 0 where
  First : List Entry → Chapters
  Cut : Chapters → List Entry → Chapters

-- the whole history: all that was asked, without a checkpoint
abbrev pub history : Chapters → List Entry
history (First es) = es
history (Cut chapters later) = history chapters ++ later

-- the last chapter, which is a journal of its own
abbrev pub last_chapter : Head → Chapters → List Entry
last_chapter h (First es) = es
last_chapter h (Cut chapters later) = checkpoint (state h (last_chapter h chapters)) ++ later

-- each chapter is a legal journal
abbrev pub AreLegal : Head → Chapters → Type 0
AreLegal h (First es) = IsLegal h es
AreLegal h (Cut chapters later) = AreLegal h chapters × IsLegal h (last_chapter h (Cut chapters later))

-- what the chapters tell: the first all, each other one what follows its checkpoint
abbrev pub told_in : Head → Chapters → List Event
told_in h (First es) = events h es
told_in h (Cut chapters later) =
    told_in h chapters ++ events_after (state h (checkpoint (state h (last_chapter h chapters)))) later

-- the chapters beside the history
pub record ChaptersLaw (h : Head) (chapters : Chapters) : Type 0 where
  -- legal chapters are of a legal history, and a legal history has legal chapters
  pub legal : AreLegal h chapters → IsLegal h (history chapters)
  pub legal_chapters : IsLegal h (history chapters) → AreLegal h chapters
  pub told : told_in h chapters ≡ events h (history chapters)
  -- the last chapter leads where the history does: what follows is answered alike, and both have one checkpoint
  pub alike : Alike (state h (last_chapter h chapters)) (state h (history chapters))
  pub goes_on :
      (later : List Entry) → GoOnAlike (state h (last_chapter h chapters)) (state h (history chapters)) later
  pub one : checkpoint (state h (last_chapter h chapters)) ≡ checkpoint (state h (history chapters))
