-- A whole story is spelled by one list of entries alone.
use Rattle.std.specs.Prelude.{ℕ, List, length}
use Rattle.hub_base.specs.declared.head.Head.{Head}
use Rattle.hub_base.specs.Entry.{Entry}
use Rattle.hub_story.specs.declared.window.Window.{Window}
use Rattle.hub_story.specs.Told.{told}
use Rattle.hub_story_text.specs.StoryText.{story_text}

-- all steps of a journal with these entries
abbrev pub all_steps : List Entry → Window
all_steps es = record { first = 0; end = length es }

-- the story of a journal, with the lines of all its steps
abbrev pub whole_story : Head → List Entry → List ℕ
whole_story h es = story_text (all_steps es) h es (told h es)
