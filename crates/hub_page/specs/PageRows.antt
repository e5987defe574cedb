-- Worked rows of the data of pages: blocks, their sketches, and the lines of pages of some steps.
use Rattle.std.specs.Prelude.{◌≡◌, ℕ, List, [], ◌∷◌, codes, length, refl}
use Rattle.std.specs.Fmt.{digits}
use Rattle.std.specs.List.{flat_map}
use Rattle.hub_base.specs.Entry.{Entry}
use Rattle.hub_base.specs.Notation.{make, procs, recv, send}
use Rattle.hub_base.specs.Value.{saying}
use Rattle.hub_story.specs.declared.window.Window.{Window}
use Rattle.hub_story.specs.Told.{told}
use Rattle.hub_page.specs.declared.limits.TheConstants.{BLOCK}
use Rattle.hub_page.specs.Data.{block_begin, block_count, line_at, whole_blocks}
use Rattle.hub_page.specs.Places.{places}
use Rattle.hub_page.specs.Sketch.{ports_words, sketch_words}

pub block_has : BLOCK ≡ 64
block_has = refl

-- the second block of 65 steps has the last one alone
pub blocks_of_one_step_more : (block_count 64 ≡ 1) × (block_count 65 ≡ 2) × (block_begin 65 1 ≡ 64) × (block_begin 65 2 ≡ 65)
blocks_of_one_step_more = (refl, refl, refl, refl)

-- all blocks of which a window has a step, whole
pub blocks_of_one_step : whole_blocks 100 (record { first = 70; end = 71 }) ≡ record { first = 64; end = 100 }
blocks_of_one_step = refl

-- a receiver waits for one step, and the send serves it
abbrev hand_over : List Entry
hand_over = make 0 0 ∷ recv 1 1 ∷ send 0 1 9 ∷ []

pub hand_over_sketch : sketch_words hand_over (told (procs 2) hand_over) 2 0 3 ≡ codes "~P0a2P1w1a1p1s1g1\n"
unfolding digits ports_words sketch_words
hand_over_sketch = refl

-- of the send alone: the receiver waits behind none of these steps
pub last_step_sketch : sketch_words hand_over (told (procs 2) hand_over) 2 2 3 ≡ codes "~P0a1p1s1g1\n"
unfolding digits ports_words sketch_words
last_step_sketch = refl

-- a sender waits at the end, and a fault of it changes nothing of that; a process that there is not has a lane of its own
abbrev still_waiting : List Entry
still_waiting = make 0 1 ∷ send 0 1 5 ∷ send 0 1 6 ∷ recv 0 1 ∷ recv 7 1 ∷ []

pub still_waiting_sketch : sketch_words still_waiting (told (procs 2) still_waiting) 2 0 5 ≡ codes "~P0w3a4t1o3P2a1t1p1m1s1\n"
unfolding digits ports_words sketch_words
still_waiting_sketch = refl

-- ---- the lines where some steps are told
abbrev lines_of : Window → List Entry → List ℕ
lines_of w es = flat_map (line_at w es (told (procs 2) es)) (places 0 (length es))

-- the first step alone: the others do nothing to it
pub first_step : lines_of (record { first = 0; end = 1 }) hand_over ≡ codes "0m0;0m1\n\n\n"
unfolding digits
first_step = refl

-- the receiver's: a port was made before, and the send ends its call
pub receiving_step : lines_of (record { first = 1; end = 2 }) hand_over ≡ codes "0m0;0m1\n1r1\n0s1:9;0s0;1:0;1g0@0;1:0\n"
unfolding digits saying
receiving_step = refl

-- a fault, beside the call that waits when its step begins
pub fault_beside : lines_of (record { first = 3; end = 4 }) still_waiting ≡ codes "0m1;0m1\n\n0s1:6\n0r1;0f3\n\n"
unfolding digits saying
fault_beside = refl
