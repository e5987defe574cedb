-- A journal with what is known of it.
use Rattle.std.specs.Prelude.{◌≡◌, ◌<◌, ◌-◌, ◌^◌, ℕ, List, length}
use Rattle.hub_base.specs.Entry.{Entry}
use Rattle.hub_base.specs.declared.head.Head.{Head}
use Rattle.hub_story.specs.declared.told.Told.{Told}
use Rattle.hub_story.specs.Told.{end_of, told}
use Rattle.hub_story_text.specs.declared.explained.Explained.{Explained}
use Rattle.hub_story_text.specs.declared.lines.Line.{Line}
use Rattle.hub_story_text.specs.LineText.{told_cells}
use Rattle.hub_story.specs.Clock.{clock_of}
use Rattle.hub_story.specs.declared.window.Window.{Window}
use Rattle.hub_story_text.specs.StoryText.{steps_from, text_with}
use Rattle.hub_story_text.specs.Known.{IsKnown}

abbrev pub entries_of : Explained → List Entry
entries_of e = e.journal.now.entries

abbrev pub head_of : Explained → Head
head_of e = e.journal.now.head

-- what is told of them
abbrev pub told_of : Explained → List Told
told_of e = told (head_of e) (entries_of e)

-- the journal is not too long; the clock is its own, and so is what else is known
pub record IsExplained (e : Explained) : Type 0 where
  pub few : length (entries_of e) < 2 ^ 32 - 1
  pub clock : e.clock ≡ clock_of (head_of e) (entries_of e)
  pub known : IsKnown e.journal.now e.known.now

-- the line is of one of the entries, and says how it ended
pub record IsLine (e : Explained) (line : Line) : Type 0 where
  pub within : line.place < length (entries_of e)
  pub end : line.end ≡ end_of (told_of e) line.place

-- its cells
abbrev pub cells_of : Explained → Line → List ℕ
cells_of e line = told_cells e.clock (entries_of e) (told_of e) line.place line.entry.now line.came.now

-- the lines of the steps from this place on, and the whole story
abbrev pub lines_from : Explained → Window → ℕ → List ℕ
lines_from e w place = steps_from e.paint w e.clock (entries_of e) (told_of e) place

abbrev pub text_of : Explained → Window → List ℕ
text_of e w = text_with e.clock e.paint w (head_of e) (entries_of e) (told_of e)
