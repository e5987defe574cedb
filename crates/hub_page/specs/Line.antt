-- A step whose line is put, with what is known behind it.
use Rattle.std.specs.Prelude.{◌≡◌, ◌<◌, ◌+◌, List, length, Some, slice_get}
use Rattle.hub_base.specs.Entry.{Entry}
use Rattle.hub_story.specs.declared.told.Told.{Told}
use Rattle.hub_story.specs.Levels.{came_by}
use Rattle.hub_story.specs.Told.{end_of}
use Rattle.hub_page.specs.declared.line.Line.{Line}
use Rattle.hub_page.specs.Known as known
use Rattle.hub_page.specs.Known.{IsKnown}
use Rattle.hub_page.specs.Past.{IsPast}

abbrev pub entries_of : Line → List Entry
entries_of l = known.entries_of l.known.now

-- what is told of all entries
abbrev pub told_of : Line → List Told
told_of l = known.told_of l.known.now

-- the entry stands there, ended so, and these came by its step
pub record IsLine (l : Line) : Type 0 where
  pub known : IsKnown l.known.now
  pub within : l.place < length (entries_of l)
  pub entry : slice_get (entries_of l) l.place ≡ Some l.entry.now
  pub end : l.past.now.end ≡ end_of (told_of l) l.place
  pub came : l.came.now ≡ came_by l.place (told_of l)
  pub past : IsPast l.known.now (l.place + 1) l.past.now
