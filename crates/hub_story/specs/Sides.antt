-- The two sides of a port: its sends, and its receives.
use Rattle.std.specs.Prelude.{List, Option}
use Rattle.std.specs.List.{filter_map}
use Rattle.hub_base.specs.declared.value.Port.{Port}
use Rattle.hub_base.specs.declared.value.Value.{Value}
use Rattle.hub_base.specs.declared.case.Case.{Case}
use Rattle.hub_base.specs.Entry.{Entry}
use Rattle.hub_base.specs.declared.event.Outcome.{Outcome}
use Rattle.hub_base.specs.Values.{sent_on, got_on}
use Rattle.hub_parts.specs.declared.side.Side.{Side}
use Rattle.hub_parts.specs.declared.side.Side.TheVariants.{Send, Recv}
use Rattle.hub_story.specs.declared.told.Told.{Told}
use Rattle.hub_story.specs.declared.moved.Moved.{Moved}
use Rattle.hub_story.specs.Passing.{moved_by}

-- the value that a case moved on this side of the port, by its outcome
abbrev pub value_on : Side → Port → Option Case → Outcome → Option Value
value_on Send p = sent_on p
value_on Recv p = got_on p

-- of all that is told of these entries, what moved on this side of the port, in order
abbrev pub moves_on : Side → Port → List Entry → List Told → List Moved
moves_on side p es all = filter_map (moved_by (value_on side p) es) all
