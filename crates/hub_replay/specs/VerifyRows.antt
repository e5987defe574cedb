-- Worked comparisons: the event text of a short journal, and the first line in which other bytes differ from it.
-- The one process sends on a channel without a buffer, so it waits, and nobody is left who could end that.
use Rattle.std.specs.Prelude.{◌≡◌, List, ℕ, [], ◌∷◌, codes, refl}
use Rattle.std.specs.Fmt.{digits}
use Rattle.hub_base.specs.Notation.{procs, make, send}
use Rattle.hub_replay.specs.Replay.{event_lines}
use Rattle.hub_replay.specs.Verify.{common_beginning, line_of_difference}

-- what the lone sender is told
abbrev told : List ℕ
told = codes "0 made 1\n0 parked\n0 stalled\n"

pub lone_sender_stalls : event_lines (procs 1) (make 0 0 ∷ send 0 1 7 ∷ []) ≡ told
unfolding digits
lone_sender_stalls = refl

-- all three lines are the event text
pub three_lines : common_beginning told (codes "0 made 1\n0 parked\n0 stalled\n") ≡ told
three_lines = refl

-- a text that ends early differs in the line that is not there
pub first_two_lines : line_of_difference told (codes "0 made 1\n0 parked\n") ≡ 3
first_two_lines = refl

pub no_bytes : line_of_difference told [] ≡ 1
no_bytes = refl

-- and one that goes on in the line behind the last
pub line_more : line_of_difference told (codes "0 made 1\n0 parked\n0 stalled\n0 done\n") ≡ 4
line_more = refl

-- a byte in the middle
pub other_byte : line_of_difference told (codes "0 made 1\n0 parted\n0 stalled\n") ≡ 2
other_byte = refl

-- lines that are the same again behind the first difference count for nothing
pub other_first_line : line_of_difference told (codes "0 made 2\n0 parked\n0 stalled\n") ≡ 1
other_first_line = refl

-- a line that begins another one differs in it
pub line_goes_on : line_of_difference told (codes "0 made 10\n0 parked\n0 stalled\n") ≡ 1
line_goes_on = refl

-- the last newline belongs to the last line
pub no_last_newline : line_of_difference told (codes "0 made 1\n0 parked\n0 stalled") ≡ 3
no_last_newline = refl
