-- Which steps of a journal are shown, by what is asked.
use Rattle.std.specs.Prelude.{ℕ, ◌-◌, ◌==◌, ◌||◌, nat_lt, Bool, false, Result, Ok, Err, if◌then◌else◌}
use Rattle.hub_story.specs.declared.window.Window.{Window}
use Rattle.chanhub_tool.specs.declared.asked.TheConstants.{MOST_DRAWN, MOST_IN_DIAGRAM}
use Rattle.chanhub_tool.specs.declared.asked.Asked.{Asked}
use Rattle.chanhub_tool.specs.declared.asked.Form.{Form}
use Rattle.chanhub_tool.specs.declared.asked.Form.TheVariants.{Text, Picture, Mermaid, Trace, Page}
use Rattle.chanhub_tool.specs.declared.asked.Shown.{Shown}
use Rattle.chanhub_tool.specs.declared.asked.Shown.TheVariants.{All, Steps}
use Rattle.chanhub_tool.specs.declared.fault.StoryFault.{StoryFault}
use Rattle.chanhub_tool.specs.declared.fault.StoryFault.TheVariants.{Backward, Outside, TooLong, TooMany}

-- a journal of so many steps is not shown whole
abbrev pub too_long : Form → ℕ → Bool
too_long (Text paint) count = false
too_long Picture count = nat_lt MOST_DRAWN count
too_long Mermaid count = false
too_long Trace count = false
too_long Page count = false

-- so many steps are never shown in this form
abbrev pub too_many : Form → ℕ → Bool
too_many (Text paint) count = false
too_many Picture count = false
too_many Mermaid count = nat_lt MOST_IN_DIAGRAM count
too_many Trace count = false
too_many Page count = false

-- the places of these steps, which are counted from 1, in a journal of so many
abbrev pub shown_of : Form → Shown → ℕ → Result Window StoryFault
shown_of form All count = if too_long form count then Err TooLong else Ok (record { first = 0; end = count })
shown_of form (Steps from to) count =
    if nat_lt to from then Err Backward
    else if (from == 0) || nat_lt count to then Err Outside
    else Ok (record { first = from - 1; end = to })

-- these steps, where they are not too many
abbrev pub fitting : Form → Window → Result Window StoryFault
fitting form w = if too_many form (w.end - w.first) then Err TooMany else Ok w

abbrev pub fitting_of : Form → Result Window StoryFault → Result Window StoryFault
fitting_of form (Ok w) = fitting form w
fitting_of form (Err fault) = Err fault

abbrev pub window_of : Asked → ℕ → Result Window StoryFault
window_of asked count = fitting_of asked.form (shown_of asked.form asked.shown count)
