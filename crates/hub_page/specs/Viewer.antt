-- What stands in every page: the files of the folder `viewer`.
use Rattle.std.specs.Prelude.{List, ℕ, ◌++◌}
use Rattle.hub_page.specs.declared.viewer.head.TheConstants as head
use Rattle.hub_page.specs.declared.viewer.style.TheConstants as style
use Rattle.hub_page.specs.declared.viewer.body.TheConstants as body
use Rattle.hub_page.specs.declared.viewer.story.TheConstants as story
use Rattle.hub_page.specs.declared.viewer.scripts.TheConstants as scripts
use Rattle.hub_page.specs.declared.viewer.data.TheConstants as reading
use Rattle.hub_page.specs.declared.viewer.view.TheConstants as view
use Rattle.hub_page.specs.declared.viewer.paint.TheConstants as paint
use Rattle.hub_page.specs.declared.viewer.panel.TheConstants as panel
use Rattle.hub_page.specs.declared.viewer.main.TheConstants as main
use Rattle.hub_page.specs.declared.viewer.end.TheConstants as end

-- before the data
abbrev pub before_text : List ℕ
before_text = head.TEXT.now ++ style.TEXT.now ++ body.TEXT.now

-- between them and the end of the story
abbrev pub between_text : List ℕ
between_text = story.TEXT.now

-- behind that: the scripts
abbrev pub scripts_text : List ℕ
scripts_text = reading.FIRST.now ++ reading.SECOND.now ++ view.TEXT.now ++ paint.FIRST.now ++ paint.SECOND.now

abbrev pub panel_text : List ℕ
panel_text = panel.TEXT.now ++ main.TEXT.now ++ end.TEXT.now

abbrev pub after_text : List ℕ
after_text = scripts.TEXT.now ++ scripts_text ++ panel_text
