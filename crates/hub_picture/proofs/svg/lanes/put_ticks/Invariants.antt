use Rattle.hub_picture.proofs.Reading.{LeadsOn}
use Rattle.hub_picture.proofs.svg.lanes.put_ticks.Given as goal

abbrev pub invariant-loop-step : goal.invariant-loop-step
invariant-loop-step l = LeadsOn l.fn.out l.out
