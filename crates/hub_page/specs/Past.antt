-- What is known of all steps before a place.
use Rattle.std.specs.Prelude.{ℕ}
use Rattle.hub_story.specs.Levels.{AreLevels, told_by}
use Rattle.hub_story.specs.Levels as tables
use Rattle.hub_story.specs.Walks.{IsAt}
use Rattle.hub_story_text.specs.Seen.{IsSeen}
use Rattle.hub_page.specs.declared.known.Known.{Known}
use Rattle.hub_page.specs.declared.past.Past.{Past}
use Rattle.hub_page.specs.Known.{entries_of, procs_of, told_of}
use Rattle.hub_page.specs.ParkedCalls.{AreParked}
use Rattle.hub_page.specs.ParkedCalls as calls

-- the walk is there, and the tables tell what is told by then
pub record IsPast (k : Known) (place : ℕ) (past : Past) : Type 0 where
  pub at : IsAt k.explained.journal.now place past.walk
  pub seen : IsSeen k.explained place past.seen
  pub levels : AreLevels (entries_of k) (told_by place (told_of k)) past.levels
  pub whole_levels : tables.IsWhole past.levels
  pub parked : AreParked (procs_of k) (told_by place (told_of k)) past.parked
  pub whole_parked : calls.IsWhole (procs_of k) past.parked
