-- The text of a story: a heading, a line for each step that the window has, with those whom it stalled below it; then what the
-- ports carried, which calls waited longest, and who waits or is outside in the end.
use Rattle.std.specs.Prelude.{ℕ, ◌+◌, List, [], ◌∷◌, ◌++◌, Option, codes, drop, length, if◌then◌else◌}
use Rattle.std.specs.List.{flat_map}
use Rattle.hub_base.specs.declared.value.Pid.{Pid}
use Rattle.hub_base.specs.Entry.{Entry}
use Rattle.hub_base.specs.declared.head.Head.{Head}
use Rattle.hub_story.specs.declared.told.Told.{Told}
use Rattle.hub_story.specs.Leavers.{leavers}
pub use Rattle.hub_story.specs.Levels.{came_by}
use Rattle.hub_story.specs.Levels.{told_by}
use Rattle.hub_story.specs.Waiting.{stalled_by, still_waiting}
use Rattle.hub_story.specs.declared.window.Window.{Window}
use Rattle.hub_story.specs.Windows.{has}
use Rattle.hub_story_text.specs.declared.paint.Paint.{Paint}
use Rattle.hub_story_text.specs.declared.paint.Paint.TheVariants.{Plain}
use Rattle.hub_story.specs.Clock.{clock_of}
use Rattle.hub_story.specs.ByClock.{to_others}
use Rattle.hub_story.specs.LastMoves.{known_of}
use Rattle.hub_story_text.specs.OutsideText.{outside_text}
use Rattle.hub_story_text.specs.Paint.{painted_line}
use Rattle.hub_story_text.specs.PortText.{made_line}
use Rattle.hub_story_text.specs.WaiterText.{waiters_words}
use Rattle.hub_story_text.specs.Waits.{waits_text}

-- who has left and who waits, of what is told until then; the clock is left out
abbrev pub who_waits : List ℕ → List ℕ → Option Pid → List Entry → List Told → List Told → List ℕ
who_waits nobody heading clock es until waiters =
    waiters_words nobody heading es (known_of es until) (leavers es until) (to_others clock waiters)

abbrev pub stall_heading : List ℕ
stall_heading = codes "        stall: everyone who is left waits\n"

-- the line of a step, and those whom it stalled
abbrev pub step_text : Paint → Option Pid → List Entry → List Told → ℕ → Entry → List ℕ
step_text paint clock es all place e =
    painted_line paint clock es all place e (came_by place all)
    ++ who_waits [] stall_heading clock es (told_by (place + 1) all) (stalled_by all place)

-- so of these entries, the first of which stands at this place, where the window has them
abbrev pub steps_text : Paint → Window → Option Pid → List Entry → List Told → ℕ → List Entry → List ℕ
steps_text paint w clock es all place [] = []
steps_text paint w clock es all place (e ∷ rest) =
    (if has w place then step_text paint clock es all place e else []) ++ steps_text paint w clock es all (place + 1) rest

-- so of all from this place on
abbrev pub steps_from : Paint → Window → Option Pid → List Entry → List Told → ℕ → List ℕ
steps_from paint w clock es all place = steps_text paint w clock es all place (drop place es)

abbrev pub heading : List ℕ
heading = codes "   step  who asks what                  answer            waited              partner or reason     what else it does\n"

abbrev pub end_heading : List ℕ
end_heading = codes "in the end these wait\n"

abbrev pub end_nobody : List ℕ
end_nobody = codes "in the end no call waits\n"

-- what the ports carried
abbrev pub ports_text : List Entry → List Told → List ℕ
ports_text es all = flat_map (λ t. made_line es all t t.event.what) all

-- what stands behind the lines of steps
abbrev pub end_text : Option Pid → Head → List Entry → List Told → List ℕ
end_text clock h es all =
    ports_text es all ++ waits_text clock es all
    ++ who_waits end_nobody end_heading clock es (told_by (length es) all) (still_waiting all)
    ++ outside_text clock es all h.procs

-- the whole, painted so, where this process is the clock
abbrev pub text_with : Option Pid → Paint → Window → Head → List Entry → List Told → List ℕ
text_with clock paint w h es all = heading ++ steps_from paint w clock es all 0 ++ end_text clock h es all

-- so of a journal with this head
abbrev pub painted_text : Paint → Window → Head → List Entry → List Told → List ℕ
painted_text paint w h es all = text_with (clock_of h es) paint w h es all

-- without colours
abbrev pub story_text : Window → Head → List Entry → List Told → List ℕ
story_text w h es all = painted_text Plain w h es all
