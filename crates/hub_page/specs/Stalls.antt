-- What the line of a step tells of those whom it stalled: for each case of each of their calls the steps that moved values there last,
-- of a send whether all who received there have left, and for whom the call perhaps waits. Other steps are named by how many steps ago
-- they were asked.
use Rattle.std.specs.Prelude.{ℕ, ◌+◌, ◌-◌, Bool, true, List, [], ◌++◌, codes, decimal, Option, None, Some}
use Rattle.std.specs.List.{flat_map}
use Rattle.hub_base.specs.declared.case.Case.{Case}
use Rattle.hub_base.specs.declared.case.Case.TheVariants.{Send}
use Rattle.hub_base.specs.Entry.{Entry}
use Rattle.hub_base.specs.Ready.{port_of}
use Rattle.hub_story.specs.declared.told.Told.{Told}
use Rattle.hub_story.specs.Levels.{told_by}
use Rattle.hub_base.specs.Values.{cases_at}
use Rattle.hub_story.specs.declared.last_moves.AtPort.{AtPort}
use Rattle.hub_story.specs.declared.last_moves.Mover.{Mover}
use Rattle.hub_story.specs.LastMoves.{known_of}
use Rattle.hub_story.specs.Whom.{whom}
use Rattle.hub_page.specs.declared.line.Line.{Line}
use Rattle.hub_page.specs.declared.stalls.Stall.{Stall}
use Rattle.hub_page.specs.Line.{entries_of, told_of}

-- ---- who was there last
abbrev pub back_words : ℕ → Option Mover → List ℕ
back_words place None = []
back_words place (Some m) = decimal (place - m.asked)

-- a sign, where the case sends, and all who received there have left
abbrev pub gone_sign : Case → Bool → List ℕ
gone_sign (Send p v) true = codes "!"
gone_sign c gone = []

abbrev pub last_words : ℕ → Case → AtPort → List ℕ
last_words place c there =
    codes ";" ++ decimal (port_of c).0 ++ codes "L" ++ back_words place there.sender ++ codes "," ++ back_words place there.receiver
    ++ gone_sign c there.gone

-- ---- for whom it perhaps waits
abbrev pub whom_words : Told → Option ℕ → List ℕ
whom_words own None = []
whom_words own (Some pid) = codes ";" ++ decimal own.event.pid.0 ++ codes ">" ++ decimal pid

-- ---- all
-- of a case where this is known of its port
abbrev pub case_words : List Entry → ℕ → List Told → Told → AtPort → Case → List ℕ
case_words es place stalled own there c = last_words place c there ++ whom_words own (whom es stalled own there c)

-- by what is told until then
abbrev pub waiting_words : List Entry → List Told → ℕ → List Told → Told → Case → List ℕ
waiting_words es until place stalled own c = case_words es place stalled own (known_of es until (port_of c)) c

-- of a call
abbrev pub call_words : List Entry → List Told → ℕ → List Told → Told → List ℕ
call_words es until place stalled own = flat_map (waiting_words es until place stalled own) (cases_at es own.asked)

-- of these calls, which the step at this place stalled
abbrev pub stall_words : List Entry → List Told → ℕ → List Told → List ℕ
stall_words es all place stalled = flat_map (call_words es (told_by (place + 1) all) place stalled) stalled

-- ---- by a step, with what is known behind it
abbrev pub until : Line → List Told
until l = told_by (l.place + 1) (told_of l)

-- of a case of a call
abbrev pub case_of : Stall → Told → Case → List ℕ
case_of s = waiting_words (entries_of s.line.now) (until s.line.now) s.line.now.place s.stalled.now

-- of a call
abbrev pub call_of : Stall → Told → List ℕ
call_of s = call_words (entries_of s.line.now) (until s.line.now) s.line.now.place s.stalled.now
