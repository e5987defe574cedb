use Rattle.std.proofs.Common.{◌≡◌}
use Rattle.hub_picture.specs.Lanes.{lanes_of}
use Rattle.hub_picture.proofs.lanes.lanes_of.Given as goal

abbrev pub invariant-loop-pid : goal.invariant-loop-pid
invariant-loop-pid l = l.lanes.items ≡ lanes_of l.pid l.entries l.told
