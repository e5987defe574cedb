-- What is known of the steps that were shown.
use Rattle.std.specs.Prelude.{◌≡◌, ◌≤◌, ◌&&◌, ℕ, Bool, not, List, [], filter, is_some, Option, None, Some}
use Rattle.hub_laws.specs.Replies.{is_parked}
use Rattle.hub_story.specs.declared.told.Told.{Told}
use Rattle.hub_story.specs.LastMoves.{AreLast, IsWhole}
use Rattle.hub_story.specs.Levels.{told_by}
use Rattle.hub_story.specs.Told.{end_of}
use Rattle.hub_story_text.specs.declared.explained.Explained.{Explained}
use Rattle.hub_story_text.specs.declared.seen.Seen.{Seen}
use Rattle.hub_story_text.specs.Explained.{entries_of, told_of}
use Rattle.hub_story_text.specs.Waits.{AreWaits, waits_below}

-- the call was parked, and has no end
abbrev pub waits_still : List Told → Told → Bool
waits_still all t = is_parked t.event.what && not (is_some (end_of all t.asked))

-- the calls that are told to wait, where they have no end
abbrev pub unended : Option Told → List Told → List Told
unended None came = filter (λ t. is_parked t.event.what) came
unended (Some end) came = []

-- by the first so many steps: who moved values last, which calls waited, and which wait to the end
pub record IsSeen (e : Explained) (count : ℕ) (seen : Seen) : Type 0 where
  pub last : AreLast (entries_of e) (told_by count (told_of e)) seen.last
  pub whole : IsWhole seen.last
  pub waits : AreWaits (waits_below e.clock (entries_of e) (told_of e) count) seen.waits
  pub few : seen.waits.count ≤ count
  pub waiting : seen.waiting.items ≡ filter (waits_still (told_of e)) (told_by count (told_of e))
