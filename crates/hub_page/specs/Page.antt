-- A page: the files of the viewer, and between them what depends on the journal: the data, and the end of its story as text.
use Rattle.std.specs.Prelude.{List, ℕ, ◌++◌}
use Rattle.hub_base.specs.declared.head.Head.{Head}
use Rattle.hub_base.specs.Entry.{Entry}
use Rattle.hub_story.specs.declared.told.Told.{Told}
use Rattle.hub_story.specs.declared.window.Window.{Window}
use Rattle.hub_story.specs.Clock.{clock_of}
use Rattle.hub_story_text.specs.StoryText.{end_text, heading}
use Rattle.hub_page.specs.Data.{data_text}
use Rattle.hub_page.specs.Viewer.{after_text, before_text, between_text}

-- the heading, and what stands behind the lines of steps
abbrev pub story_end : Head → List Entry → List Told → List ℕ
story_end h es all = heading ++ end_text (clock_of h es) h es all

-- the data, and the end of the story, between these texts
abbrev pub in_frame : List ℕ → List ℕ → List ℕ → Window → Head → List Entry → List Told → List ℕ
in_frame before between after w h es all = before ++ data_text w h es all ++ between ++ story_end h es all ++ after

-- of these steps of a journal with this head and these entries, of which this is told
abbrev pub page_text : Window → Head → List Entry → List Told → List ℕ
page_text w h es all = in_frame before_text between_text after_text w h es all
