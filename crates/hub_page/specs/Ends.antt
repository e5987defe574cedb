-- What the line of a step tells of an event that came by it: whose end it is and how that ended, where a value that was received came
-- from, and how much the port of a value then holds. Other steps are named by how many steps ago they were asked.
use Rattle.std.specs.Prelude.{ℕ, ◌-◌, List, [], ◌++◌, codes, decimal, Option, None, Some, if◌then◌else◌}
use Rattle.hub_base.specs.declared.value.Port.{Port}
use Rattle.hub_base.specs.Entry.{Entry}
use Rattle.hub_base.specs.declared.event.Outcome.{Outcome}
use Rattle.hub_base.specs.declared.event.Outcome.TheVariants.{Sent, Got, Drained, Closed}
use Rattle.hub_base.specs.declared.event.What.{What}
use Rattle.hub_base.specs.declared.event.What.TheVariants as what
use Rattle.hub_base.specs.Faults.{fault_number}
use Rattle.hub_laws.specs.Replies.{is_parked}
use Rattle.hub_parts.specs.declared.side.Side.{Side}
use Rattle.hub_parts.specs.declared.side.Side.TheVariants.{Send, Recv}
use Rattle.hub_story.specs.declared.moves.Move.{Move}
use Rattle.hub_story.specs.declared.told.Told.{Told}
use Rattle.hub_story.specs.Moves.{move_of}
use Rattle.hub_story.specs.Partners.{partner_of}
use Rattle.hub_story.specs.Levels.{level_after}

abbrev pub outcome_letter : Outcome → List ℕ
outcome_letter Sent = codes "s"
outcome_letter (Got v) = codes "g"
outcome_letter Drained = codes "d"
outcome_letter Closed = codes "c"

-- how a step ended: a letter, and the number of its case, of the port that it made or of the fault
abbrev pub end_words : What → List ℕ
end_words (what.Made p) = codes "m" ++ decimal p.0
end_words (what.Fired i o) = outcome_letter o ++ decimal i
end_words what.Default = codes "D"
end_words what.Done = codes "k"
end_words what.Parked = []
end_words what.Stalled = codes "S"
end_words (what.Fault f) = codes "f" ++ decimal (fault_number f)
end_words what.Cancelled = codes "x"

-- the step that sent a value
abbrev pub from_words : ℕ → Option ℕ → List ℕ
from_words place None = []
from_words place (Some sender) = codes "@" ++ decimal (place - sender)

-- how much a port holds after the step at this place
abbrev pub level_words : List Entry → List Told → ℕ → Port → List ℕ
level_words es all place p = codes ";" ++ decimal p.0 ++ codes ":" ++ decimal (level_after es all p place)

-- the step that sent the value of the call that was asked at the second place, where that received it
abbrev pub sender_words : List Entry → List Told → ℕ → ℕ → Side → List ℕ
sender_words es all place asked Send = []
sender_words es all place asked Recv = from_words place (partner_of es all asked)

-- of what moved
abbrev pub moved_words : List Entry → List Told → ℕ → ℕ → Option Move → List ℕ
moved_words es all place asked None = []
moved_words es all place asked (Some m) = sender_words es all place asked m.side ++ level_words es all place m.port

-- of an event that came by the step at this place; a call that is parked has not ended
abbrev pub told_words : List Entry → List Told → ℕ → Told → List ℕ
told_words es all place t =
    if is_parked t.event.what then []
    else codes ";" ++ decimal (place - t.asked) ++ end_words t.event.what ++ moved_words es all place t.asked (move_of es t)
