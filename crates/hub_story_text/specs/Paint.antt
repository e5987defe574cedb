-- In which colours the lines of steps are shown: by the escape sequences of terminals.
use Rattle.std.specs.Prelude.{ℕ, if◌then◌else◌, Bool, List, ◌∷◌, ◌++◌, codes, Option, None, Some}
use Rattle.hub_base.specs.declared.value.Pid.{Pid}
use Rattle.hub_base.specs.Entry.{Entry}
use Rattle.hub_base.specs.declared.event.Outcome.{Outcome}
use Rattle.hub_base.specs.declared.event.Outcome.TheVariants.{Closed}
use Rattle.hub_base.specs.declared.event.What.{What}
use Rattle.hub_base.specs.declared.event.What.TheVariants as what
use Rattle.hub_story.specs.declared.told.Told.{Told}
use Rattle.hub_story.specs.Told.{end_of}
use Rattle.hub_story_text.specs.declared.paint.Paint.{Paint}
use Rattle.hub_story_text.specs.declared.paint.Paint.TheVariants.{Plain, Colours}
use Rattle.hub_story_text.specs.declared.paint.Colour.{Colour}
use Rattle.hub_story_text.specs.declared.paint.Colour.TheVariants.{Red, Yellow}
use Rattle.hub_story.specs.ByClock.{is_clock}
use Rattle.hub_story_text.specs.LineText.{told_cells}

-- what selects this
abbrev pub sequence : List ℕ → List ℕ
sequence selected = 27 ∷ codes "[" ++ selected ++ codes "m"

abbrev pub colour_text : Colour → List ℕ
colour_text Red = sequence (codes "31")
colour_text Yellow = sequence (codes "33")

-- a send on a closed channel
abbrev pub fired_colour : Outcome → Option Colour
fired_colour Closed = Some Red
fired_colour other = None

-- a step that was stalled, unless it is the clock's own; a fault; or a send on a closed channel
abbrev pub ended_colour : Bool → What → Option Colour
ended_colour own what.Stalled = if own then None else Some Red
ended_colour own (what.Fault f) = Some Red
ended_colour own (what.Fired i o) = fired_colour o
ended_colour own other = None

-- by how a step ended; one that did not waits to the end, as the clock does
abbrev pub colour_of : Bool → Option Told → Option Colour
colour_of own None = if own then None else Some Yellow
colour_of own (Some t) = ended_colour own t.event.what

-- selects no colour, and ends the line
abbrev pub no_colour : List ℕ
no_colour = sequence (codes "0") ++ codes "\n"

-- the line of these cells
abbrev pub coloured_line : Option Colour → List ℕ → List ℕ
coloured_line None text = text ++ codes "\n"
coloured_line (Some colour) text = colour_text colour ++ text ++ no_colour

-- in which colour a line is shown, if in any
abbrev pub shown_colour : Paint → Bool → Option Told → Option Colour
shown_colour Plain own end = None
shown_colour Colours own end = colour_of own end

-- the line of the entry at this place as it is shown
abbrev pub painted_line : Paint → Option Pid → List Entry → List Told → ℕ → Entry → List Told → List ℕ
painted_line paint clock es all place e came =
    coloured_line (shown_colour paint (is_clock clock e.pid) (end_of all place)) (told_cells clock es all place e came)
