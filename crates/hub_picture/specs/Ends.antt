-- What drawings say of a journal by its story is what the journal tells.
use Rattle.std.specs.Prelude.{◌≡◌, ℕ, ◌<◌, length}
use Rattle.hub_base.specs.Journal.{JournalView}
use Rattle.hub_story.specs.declared.story.Story.{Story}
use Rattle.hub_story.specs.Ends.{ended_at}
use Rattle.hub_story.specs.Told.{told, end_of}

-- how each entry ended is how its end is told
abbrev pub EndsLaw : JournalView → Story → Type 0
EndsLaw given s =
    (place : ℕ) → place < length given.entries →
    ended_at s place ≡ end_of (told given.head given.entries) place
