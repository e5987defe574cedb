-- The line of a step: its number, who asks what, what it was told in the end, how long it waited, where its value went or
-- came from, or that it is the clock's, and what it did to others that waited. A step is printed by its number, counted from 1.
use Rattle.std.specs.Prelude.{ℕ, ◌+◌, ◌-◌, nat_lt, List, [], ◌∷◌, ◌++◌, codes, decimal, length, slice_get}
use Rattle.std.specs.Prelude.{Option, None, Some, if◌then◌else◌}
use Rattle.std.specs.List.{join_with_byte}
use Rattle.std.specs.Option.{option_map_or}
use Rattle.hub_base.specs.declared.value.Pid.{Pid}
use Rattle.hub_base.specs.declared.value.Port.{Port}
use Rattle.hub_base.specs.declared.case.Case.{Case}
use Rattle.hub_base.specs.declared.case.Case.TheVariants.{Send, Recv}
use Rattle.hub_base.specs.Entry.{Entry}
use Rattle.hub_base.specs.declared.event.Outcome.{Outcome}
use Rattle.hub_base.specs.declared.event.Outcome.TheVariants.{Sent, Got}
use Rattle.hub_base.specs.declared.event.What.{What}
use Rattle.hub_base.specs.declared.event.What.TheVariants as what
use Rattle.hub_base.specs.Lines.{step_fields}
use Rattle.hub_base.specs.Values.{cases_or}
use Rattle.hub_story.specs.declared.told.Told.{Told}
use Rattle.hub_story.specs.Told.{end_of}
use Rattle.hub_story_text.specs.declared.cells.TheConstants.{STEP_WIDTH, ASKS, ANSWER, WAITED, VALUE}
use Rattle.hub_story_text.specs.Cells.{right, with_cell}
use Rattle.hub_story_text.specs.AnswerText.{ended_words, fault_words}
use Rattle.hub_story.specs.ByClock.{is_clock, part_of}
use Rattle.hub_story_text.specs.EndsText.{with_all_ends}
use Rattle.hub_story.specs.Partners.{partner_of}

-- the entry's line in the journal, without its newline
abbrev pub asks : Entry → List ℕ
asks e = codes "P" ++ join_with_byte 32 (decimal e.pid.0 ∷ step_fields e.step)

-- how many steps it waited, and until which; nothing where it did not wait
abbrev pub waited_words : ℕ → Told → List ℕ
waited_words place t =
    if nat_lt place t.by then decimal (t.by - place) ++ codes ", until " ++ decimal (t.by + 1) else []

-- the process of the entry at this place, and its step
abbrev pub step_words : List Entry → ℕ → List ℕ
step_words es place =
    option_map_or (λ e. codes "P" ++ decimal e.pid.0) (slice_get es place) [] ++ codes ", step " ++ decimal (place + 1)

-- where a value went that was sent on this port
abbrev pub sent_words : List Entry → Port → Option ℕ → List ℕ
sent_words es p None = codes "stays in port " ++ decimal p.0
sent_words es p (Some place) = codes "to " ++ step_words es place

-- where a value came from that was received
abbrev pub got_words : List Entry → Option ℕ → List ℕ
got_words es None = []
got_words es (Some place) = codes "from " ++ step_words es place

-- of the case that fired, where it moved a value
abbrev pub moved_words : List Entry → Option ℕ → Case → Outcome → List ℕ
moved_words es partner (Send p v) Sent = sent_words es p partner
moved_words es partner (Recv p) (Got v) = got_words es partner
moved_words es partner other outcome = []

abbrev pub value_words : List Entry → List Case → Option ℕ → What → List ℕ
value_words es cases partner (what.Fired i o) = option_map_or (λ c. moved_words es partner c o) (slice_get cases i) []
value_words es cases partner (what.Fault f) = fault_words f
value_words es cases partner other = []

-- behind who asks what: what it was told in the end, how long it waited, and what is known of its value, or what is wrong; a
-- call that waits has waited until the journal's last step
abbrev pub with_end : Option Pid → List Entry → ℕ → Entry → Option ℕ → List ℕ → Option Told → List ℕ
with_end clock es place e partner before None =
    with_cell WAITED (with_cell ANSWER before (codes "waits")) (decimal (length es - (place + 1)) ++ codes ", still")
with_end clock es place e partner before (Some t) =
    with_cell VALUE
    (with_cell WAITED (with_cell ANSWER before (ended_words (part_of clock es t) (cases_or e.step []) t.event.what)) (waited_words place t))
    (value_words es (cases_or e.step []) partner t.event.what)

-- that the step is the clock's
abbrev pub clock_words : Option Pid → Entry → List ℕ
clock_words clock e = if is_clock clock e.pid then codes "the clock" else []

abbrev pub with_clock : Option Pid → Entry → List ℕ → List ℕ
with_clock clock e line = with_cell VALUE line (clock_words clock e)

-- the line of the entry at this place, by how it ended, by the other entry of its value's passage, and by what came by its step;
-- without the newline
abbrev pub cells : Option Pid → List Entry → ℕ → Entry → Option Told → Option ℕ → List Told → List ℕ
cells clock es place e end partner came =
    with_all_ends clock es place came
    (with_clock clock e (with_end clock es place e partner (with_cell ASKS (right STEP_WIDTH (place + 1)) (asks e)) end))

-- so by all that is told
abbrev pub told_cells : Option Pid → List Entry → List Told → ℕ → Entry → List Told → List ℕ
told_cells clock es all place e came = cells clock es place e (end_of all place) (partner_of es all place) came

-- the whole line
abbrev pub told_line : Option Pid → List Entry → List Told → ℕ → Entry → List Told → List ℕ
told_line clock es all place e came = told_cells clock es all place e came ++ codes "\n"
