-- What must be known of a journal before its first step is told.
use Rattle.std.specs.Prelude.{◌≡◌, length}
use Rattle.hub_base.specs.Journal.{JournalView}
use Rattle.hub_story.specs.LateEnds.{AreLate}
use Rattle.hub_story.specs.Partners.{AreIn, ways}
use Rattle.hub_story.specs.Tellings.{IsTelling}
use Rattle.hub_story.specs.Told.{told}
use Rattle.hub_story_text.specs.declared.known.Known.{Known}
use Rattle.hub_story_text.specs.StoryText.{ports_text}

-- the late ends are its own, the other entries are those of its passages, the lines tell of its ports; and what all that it tells is like
pub record IsKnown (j : JournalView) (known : Known) : Type 0 where
  pub ends : AreLate (told j.head j.entries) (length j.entries) known.ends
  pub partners : AreIn (ways j.entries (told j.head j.entries)) (length j.entries) known.partners.items
  pub ports : known.ports.items ≡ ports_text j.entries (told j.head j.entries)
  pub telling : IsTelling (length j.entries) (told j.head j.entries)
