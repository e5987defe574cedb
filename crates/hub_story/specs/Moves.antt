-- Which values moved, by what is told.
use Rattle.std.specs.Prelude.{◌==◌, ◌&&◌, Bool, true, false, List, Option, None, Some, if◌then◌else◌}
use Rattle.hub_base.specs.declared.case.Case.{Case}
use Rattle.hub_base.specs.declared.case.Case.TheVariants.{Send, Recv}
use Rattle.hub_base.specs.declared.event.Outcome.{Outcome}
use Rattle.hub_base.specs.declared.event.Outcome.TheVariants.{Sent, Got}
use Rattle.hub_base.specs.declared.value.Port.{Port}
use Rattle.hub_base.specs.declared.value.Value.{Value}
use Rattle.hub_base.specs.Entry.{Entry}
use Rattle.hub_base.specs.Values.{cases_at, of_what}
use Rattle.hub_parts.specs.declared.side.Side.{Side}
use Rattle.hub_parts.specs.declared.side.Side.TheVariants as side
use Rattle.hub_story.specs.declared.moves.Move.{Move}
use Rattle.hub_story.specs.declared.told.Told.{Told}

-- a send that was done put its value into the port, and a receive took one out of it
abbrev pub move_by : Case → Outcome → Option Move
move_by (Send p v) Sent = Some (record { port = p; side = side.Send; value = v })
move_by (Recv p) (Got v) = Some (record { port = p; side = side.Recv; value = v })
move_by case outcome = None

abbrev pub move_in : Option Case → Outcome → Option Move
move_in None outcome = None
move_in (Some case) outcome = move_by case outcome

-- what is told to have moved
abbrev pub move_of : List Entry → Told → Option Move
move_of es t = of_what move_in (cases_at es t.asked) t.event.what

-- ---- on one side of one port
abbrev pub is_same : Side → Side → Bool
is_same side.Send side.Send = true
is_same side.Recv side.Recv = true
is_same a b = false

-- the value, where it moved there
abbrev pub value_at : Side → Port → Move → Option Value
value_at s p m = if is_same s m.side && (m.port.0 == p.0) then Some m.value else None

-- the port from which it was received, if it was
abbrev pub got_from : Option Move → Option Port
got_from None = None
got_from (Some m) = if is_same side.Recv m.side then Some m.port else None
