-- Worked rows of what journals tell.
use Rattle.std.specs.Prelude.{◌≡◌, ℕ, Bool, true, false, List, [], ◌∷◌, map, Option, None, Some, refl}
use Rattle.std.specs.Option.{option_map}
use Rattle.hub_base.specs.Entry.{Entry}
use Rattle.hub_base.specs.declared.case.Case.TheVariants.{Send}
use Rattle.hub_base.specs.declared.value.Pid.{Pid}
use Rattle.hub_base.specs.declared.value.Value.{Value}
use Rattle.hub_base.specs.Value.{bytes_of}
use Rattle.hub_base.specs.Notation.{procs, procs_two, procs_three, port, r, make, send, recv, close, exit, select, cancel, cancelled, start, reopen}
use Rattle.hub_story.specs.declared.told.Told.{Told}
use Rattle.hub_story.specs.declared.moved.Passage.{Passage}
use Rattle.hub_story.specs.Clock.{clock_of}
use Rattle.hub_story.specs.Leavers.{leavers}
use Rattle.hub_story.specs.Lives.{most_room}
use Rattle.hub_story.specs.Outside.{outside}
use Rattle.hub_story.specs.Receivers.{gone_from}
use Rattle.hub_story.specs.Told.{told, end_of}
use Rattle.hub_story.specs.Passing.{passages}
use Rattle.hub_story.specs.Waiting.{still_waiting, stalled_by}

-- the places of the entries between which values went
abbrev arrows : List Passage → List (ℕ × ℕ)
arrows ms = map (λ m. (m.sent.told.asked, m.received.told.asked)) ms

-- the entry by whose step the entry at this place ended
abbrev ended_by : List Told → ℕ → Option ℕ
ended_by all place = option_map (λ t. t.by) (end_of all place)

abbrev places : List Told → List ℕ
places ts = map (λ t. t.asked) ts

-- a receiver waits, and is served by the send
abbrev hand_over : List Entry
hand_over = make 0 0 ∷ recv 1 1 ∷ send 0 1 9 ∷ []

pub handed_over : arrows (passages hand_over (told (procs 2) hand_over) (port 1)) ≡ (2, 1) ∷ []
handed_over = refl

pub ended_by_the_send : ended_by (told (procs 2) hand_over) 1 ≡ Some 2
ended_by_the_send = refl

-- a full buffer: the receive lets the waiting sender in, and its value comes out later; the last
-- value stays
abbrev through_a_buffer : List Entry
through_a_buffer = make 0 1 ∷ send 0 1 5 ∷ send 0 1 6 ∷ recv 1 1 ∷ recv 1 1 ∷ send 0 1 7 ∷ []

pub in_order :
    arrows (passages through_a_buffer (told (procs 2) through_a_buffer) (port 1)) ≡ (1, 3) ∷ (2, 4) ∷ []
in_order = refl

pub let_in : ended_by (told (procs 2) through_a_buffer) 2 ≡ Some 3
let_in = refl

-- of a select the case that fired tells the port; a refused entry in between ends nothing
abbrev on_two_ports : List Entry
on_two_ports =
    make 0 0 ∷ make 0 0 ∷ select 1 0 (r 1 ∷ r 2 ∷ []) false ∷ recv 1 1 ∷ send 0 2 8 ∷ recv 1 1 ∷ []

pub by_its_port : arrows (passages on_two_ports (told (procs 2) on_two_ports) (port 2)) ≡ (4, 2) ∷ []
by_its_port = refl

pub busy_ends_at_once : ended_by (told (procs 2) on_two_ports) 3 ≡ Some 3
busy_ends_at_once = refl

pub one_still_waits : places (still_waiting (told (procs 2) on_two_ports)) ≡ 5 ∷ []
one_still_waits = refl

-- the exit of the last process that could have come stalls the other two
abbrev everyone_stalls : List Entry
everyone_stalls = make 0 0 ∷ recv 1 1 ∷ send 2 0 5 ∷ exit 0 ∷ []

pub stalled_row : places (stalled_by (told (procs 3) everyone_stalls) 3) ≡ 1 ∷ 2 ∷ []
stalled_row = refl

pub nobody_still_waits : still_waiting (told (procs 3) everyone_stalls) ≡ []
nobody_still_waits = refl

-- a cancel ends the call of another process, and is told by the cancel's entry
abbrev cancelled_call : List Entry
cancelled_call = make 0 0 ∷ recv 1 1 ∷ cancel 0 1 ∷ send 0 1 4 ∷ []

pub cancelled_row :
    end_of (told (procs_two 2) cancelled_call) 1 ≡ Some (record { asked = 1; by = 2; event = cancelled 1 })
cancelled_row = refl

pub cancel_moves_nothing : passages cancelled_call (told (procs_two 2) cancelled_call) (port 1) ≡ []
cancel_moves_nothing = refl

pub sender_waits_alone : places (still_waiting (told (procs_two 2) cancelled_call)) ≡ 3 ∷ []
sender_waits_alone = refl

-- bytes are passed as numbers are
abbrev two_bytes : Value
two_bytes = bytes_of (222 ∷ 173 ∷ [])

abbrev bytes_passed : List Entry
bytes_passed = make 0 1 ∷ select 0 0 (Send (port 1) two_bytes ∷ []) false ∷ recv 1 1 ∷ []

abbrev values : List Passage → List Value
values ms = map (λ m. m.received.value) ms

pub bytes_row : values (passages bytes_passed (told (procs_two 2) bytes_passed) (port 1)) ≡ two_bytes ∷ []
bytes_row = refl

-- a clock waits in the first step of all,
abbrev two : Option Pid
two = Some (record { 0 = 2 })

pub clock_row : clock_of (procs_two 3) (recv 2 0 ∷ make 0 1 ∷ exit 2 ∷ []) ≡ two
clock_row = refl

-- or later, and then makes another step
pub chapter_row : clock_of (procs_two 3) (make 0 1 ∷ recv 2 0 ∷ cancel 0 2 ∷ recv 2 0 ∷ []) ≡ two
chapter_row = refl

pub awake_row : clock_of (procs_two 3) (make 0 1 ∷ recv 1 1 ∷ cancel 2 1 ∷ recv 2 0 ∷ []) ≡ two
awake_row = refl

pub late_row : clock_of (procs_two 3) (make 0 1 ∷ recv 2 0 ∷ cancel 0 2 ∷ exit 2 ∷ []) ≡ None
late_row = refl

-- it waits, makes no port, is not alone, and can cancel
pub cancels_row : clock_of (procs_two 3) (make 0 1 ∷ cancel 2 1 ∷ cancel 2 0 ∷ []) ≡ None
cancels_row = refl

pub making_row : clock_of (procs_two 3) (recv 2 0 ∷ make 2 1 ∷ []) ≡ None
making_row = refl

pub alone_row : clock_of (procs_two 1) (recv 0 0 ∷ []) ≡ None
alone_row = refl

pub first_edition_row : clock_of (procs 3) (recv 2 0 ∷ []) ≡ None
first_edition_row = refl

-- a process that is started again has not left, until it exits again
abbrev comes_back : List Entry
comes_back = make 0 1 ∷ exit 1 ∷ exit 2 ∷ start 0 1 ∷ []

abbrev left_after : List Entry → List ℕ
left_after es = places (leavers es (told (procs_three 3) es))

pub other_left_row : left_after comes_back ≡ 2 ∷ []
other_left_row = refl

pub leaves_again_row : left_after (make 0 1 ∷ exit 1 ∷ exit 2 ∷ start 0 1 ∷ exit 1 ∷ []) ≡ 2 ∷ 4 ∷ []
leaves_again_row = refl

-- a start that is a fault starts nobody
pub not_gone_row : left_after (make 0 1 ∷ exit 1 ∷ start 0 2 ∷ []) ≡ 1 ∷ []
not_gone_row = refl

abbrev outside_after : List Entry → List ℕ
outside_after es = map (λ o. o.pid.0) (outside es (told (procs_three 3) es) [] 3)

pub outside_row : outside_after comes_back ≡ 0 ∷ 1 ∷ []
outside_row = refl

-- of a port all receivers are gone, until one of them comes back, or the port has a new life
abbrev receivers_go : List Entry
receivers_go = make 0 1 ∷ send 0 1 5 ∷ recv 1 1 ∷ exit 1 ∷ []

abbrev reopens_port : List Entry
reopens_port = make 0 1 ∷ send 0 1 5 ∷ recv 1 1 ∷ exit 1 ∷ close 0 1 ∷ reopen 0 1 2 ∷ []

abbrev gone_after : List Entry → Bool
gone_after es = gone_from es (told (procs_three 3) es) (port 1)

pub gone_row : gone_after receivers_go ≡ true
gone_row = refl

pub back_row : gone_after (make 0 1 ∷ send 0 1 5 ∷ recv 1 1 ∷ exit 1 ∷ start 0 1 ∷ []) ≡ false
back_row = refl

pub new_life_row : gone_after reopens_port ≡ false
new_life_row = refl

-- a reopen that is a fault begins none
pub same_life_row : gone_after (make 0 1 ∷ send 0 1 5 ∷ recv 1 1 ∷ exit 1 ∷ reopen 0 1 2 ∷ []) ≡ true
same_life_row = refl

pub most_room_row : most_room reopens_port (told (procs_three 3) reopens_port) (port 1) 0 ≡ 2
most_room_row = refl

-- in the third edition too a clock is known
pub third_edition_row : clock_of (procs_three 3) (recv 2 0 ∷ make 0 1 ∷ exit 1 ∷ start 0 1 ∷ exit 2 ∷ []) ≡ two
third_edition_row = refl

-- who starts another process is none
pub starting_row : clock_of (procs_three 3) (recv 2 0 ∷ exit 1 ∷ start 2 1 ∷ []) ≡ None
starting_row = refl
