use Rattle.hub_picture.proofs.Reading.{LeadsOn}
use Rattle.hub_picture.proofs.svg.select.put_offers.Given as goal

abbrev pub invariant-loop-place : goal.invariant-loop-place
invariant-loop-place l = LeadsOn l.fn.out l.out
