-- The data of a page: a line for each step, and behind the lines of each block of steps a sketch of the block. The line says what a step
-- asks, and behind that what is told by it; it is empty where the page does not tell the step.
use Rattle.std.specs.Prelude.{List, None, Option, Some, [], codes, decimal, if◌then◌else◌, length, min, slice_get, ℕ, ◌*◌, ◌++◌, ◌+◌, ◌-◌, ◌/◌}
use Rattle.std.specs.List.{flat_map, range_with_len}
use Rattle.std.specs.Option.{option_map_or}
use Rattle.hub_base.specs.declared.head.Head.{Head}
use Rattle.hub_base.specs.declared.value.Pid.{Pid}
use Rattle.hub_base.specs.Entry.{Entry}
use Rattle.hub_base.specs.Reading.{head_lines}
use Rattle.hub_story.specs.declared.told.Told.{Told}
use Rattle.hub_story.specs.declared.window.Window.{Window}
use Rattle.hub_story.specs.Waiting.{stalled_by}
use Rattle.hub_story.specs.Clock.{clock_of}
use Rattle.hub_story.specs.Levels.{came_by}
use Rattle.hub_page.specs.declared.limits.TheConstants.{BLOCK}
use Rattle.hub_page.specs.Entries.{entry_words}
use Rattle.hub_page.specs.Ends.{told_words}
use Rattle.hub_page.specs.Excerpt.{is_told}
use Rattle.hub_page.specs.Places.{places}
use Rattle.hub_page.specs.Sketch.{sketch_words}
use Rattle.hub_page.specs.Stalls.{stall_words}

-- the line of the entry at this place
abbrev pub full_line : List Entry → List Told → ℕ → Entry → List ℕ
full_line es all place e =
    entry_words e ++ flat_map (told_words es all place) (came_by place all) ++ stall_words es all place (stalled_by all place) ++ codes "\n"

-- where the page tells the steps of this window
abbrev pub step_line : Window → List Entry → List Told → ℕ → Entry → List ℕ
step_line w es all place e = if is_told w es all place e then full_line es all place e else codes "\n"

abbrev pub line_at : Window → List Entry → List Told → ℕ → List ℕ
line_at w es all place = option_map_or (step_line w es all place) (slice_get es place) []

-- ---- blocks
-- how many there are of so many steps
abbrev pub block_count : ℕ → ℕ
block_count count = (count + (BLOCK - 1)) / BLOCK

-- where the block of this number begins, of so many steps; the last one ends behind the last step
abbrev pub block_begin : ℕ → ℕ → ℕ
block_begin count number = min (BLOCK * number) count

-- the lines from the first place on, before the end, and a sketch of them
abbrev pub lines_and_sketch : Window → ℕ → List Entry → List Told → ℕ → ℕ → List ℕ
lines_and_sketch w procs es all first end = flat_map (line_at w es all) (places first end) ++ sketch_words es all procs first end

abbrev pub block_text : Window → ℕ → List Entry → List Told → ℕ → List ℕ
block_text w procs es all number =
    lines_and_sketch w procs es all (block_begin (length es) number) (block_begin (length es) (number + 1))

-- ---- all
-- the blocks of so many steps of which the window has some, whole
abbrev pub whole_blocks : ℕ → Window → Window
whole_blocks count w = record { first = block_begin count (w.first / BLOCK); end = block_begin count (block_count w.end) }

-- the clock, where the journal has one
abbrev pub clock_words : Option Pid → List ℕ
clock_words None = []
clock_words (Some clock) = codes " clock " ++ decimal clock.0

-- the steps of the window, which are counted from 1, and the clock
abbrev pub window_line : Window → Option Pid → List ℕ
window_line w clock = codes "steps " ++ decimal (w.first + 1) ++ codes " " ++ decimal w.end ++ clock_words clock ++ codes "\n"

-- of a journal with this head and these entries, of which this is told; the steps of this window are asked for
abbrev pub data_text : Window → Head → List Entry → List Told → List ℕ
data_text w h es all =
    head_lines h ++ window_line w (clock_of h es)
    ++ flat_map (block_text (whole_blocks (length es) w) h.procs es all) (range_with_len 0 (block_count (length es)))
