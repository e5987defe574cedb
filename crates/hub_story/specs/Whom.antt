-- For whom a stalled call perhaps waits: a guess by who moved values last.
use Rattle.std.specs.Prelude.{ℕ, ◌==◌, ◌&&◌, not, Bool, false, List, Option, None, Some, if◌then◌else◌}
use Rattle.std.specs.List.{list_any}
use Rattle.std.specs.Option.{option_or}
use Rattle.hub_base.specs.declared.case.Case.{Case}
use Rattle.hub_base.specs.declared.case.Case.TheVariants.{Send, Recv}
use Rattle.hub_base.specs.Entry.{Entry}
use Rattle.hub_base.specs.Values.{cases_at}
use Rattle.hub_story.specs.declared.last_moves.AtPort.{AtPort}
use Rattle.hub_story.specs.declared.last_moves.Mover.{Mover}
use Rattle.hub_story.specs.declared.told.Told.{Told}
use Rattle.hub_story.specs.Leavers.{is_told_to}

-- both send on one port, or both receive from it
abbrev pub is_beside : Case → Case → Bool
is_beside (Recv p) (Recv q) = p.0 == q.0
is_beside (Send p v) (Send q u) = p.0 == q.0
is_beside c d = false

-- the call is of process n, and waits beside that case
abbrev pub waits_beside : List Entry → Case → ℕ → Told → Bool
waits_beside es c n t = is_told_to n t && list_any (is_beside c) (cases_at es t.asked)

-- process n was stalled too, is not the one that waits, and does not wait beside it
abbrev pub can_help : List Entry → List Told → Told → Case → ℕ → Bool
can_help es stalled own c n = not (is_told_to n own) && list_any (is_told_to n) stalled && not (list_any (waits_beside es c n) stalled)

abbrev pub helper : List Entry → List Told → Told → Case → Option Mover → Option ℕ
helper es stalled own c None = None
helper es stalled own c (Some m) = if can_help es stalled own c m.pid.0 then Some m.pid.0 else None

-- of these calls, which a step stalled, one by this case, where this is known of its port: a receive perhaps waits for the last who sent
-- there, or else for the last who received; a send the other way round
abbrev pub whom : List Entry → List Told → Told → AtPort → Case → Option ℕ
whom es stalled own there (Recv p) =
    option_or (helper es stalled own (Recv p) there.sender) (helper es stalled own (Recv p) there.receiver)
whom es stalled own there (Send p v) =
    option_or (helper es stalled own (Send p v) there.receiver) (helper es stalled own (Send p v) there.sender)
