-- The data of a whole page.
use Rattle.std.specs.Prelude.{ℕ, List}
use Rattle.hub_base.specs.declared.head.Head.{Head}
use Rattle.hub_base.specs.Entry.{Entry}
use Rattle.hub_story.specs.Told.{told}
use Rattle.hub_story_text.specs.OneStory.{all_steps}
use Rattle.hub_page.specs.Data.{data_text}

-- where all steps of a journal are asked for
abbrev pub whole_data : Head → List Entry → List ℕ
whole_data h es = data_text (all_steps es) h es (told h es)
