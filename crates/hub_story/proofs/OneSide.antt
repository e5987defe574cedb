-- What moved on one side of a port comes out of what moved.
use Rattle.std.proofs.Common.{◌≡◌, List, Option, Some, refl}
use Rattle.std.specs.Option.{option_and_then}
use Rattle.hub_base.specs.declared.case.Case.{Case}
use Rattle.hub_base.specs.declared.case.Case.TheVariants.{Send, Recv}
use Rattle.hub_base.specs.declared.event.Outcome.{Outcome}
use Rattle.hub_base.specs.declared.event.Outcome.TheVariants.{Sent, Got}
use Rattle.hub_base.specs.declared.event.What.{What}
use Rattle.hub_base.specs.declared.event.What.TheVariants as what
use Rattle.hub_base.specs.declared.value.Port.{Port}
use Rattle.hub_base.specs.Values.{of_what}
use Rattle.hub_parts.specs.declared.side.Side.{Side}
use Rattle.hub_parts.specs.declared.side.Side.TheVariants as side
use Rattle.hub_story.specs.Moves.{move_in, value_at}
use Rattle.hub_story.specs.Sides.{value_on}

-- of one case
case-on : (s : Side) (p : Port) (c : Option Case) (o : Outcome) → value_on s p c o ≡ option_and_then (value_at s p) (move_in c o)
case-on side.Send p (Some (Send q v)) Sent = refl
case-on side.Send p (Some (Recv q)) (Got v) = refl
case-on side.Recv p (Some (Send q v)) Sent = refl
case-on side.Recv p (Some (Recv q)) (Got v) = refl
case-on s p c o = refl

pub moved-on : (s : Side) (p : Port) (cases : List Case) (w : What) →
    of_what (value_on s p) cases w ≡ option_and_then (value_at s p) (of_what move_in cases w)
moved-on s p cases (what.Fired i o) = case-on s p _ o
moved-on s p cases w = refl
