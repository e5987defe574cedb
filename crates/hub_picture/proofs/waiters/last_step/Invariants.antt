use Rattle.std.proofs.Common.{◌≡◌, drop}
use Rattle.hub_picture.specs.Waiters.{last_step}
use Rattle.hub_picture.proofs.waiters.last_step.Given as goal

abbrev pub invariant-loop-told : goal.invariant-loop-told
invariant-loop-told l =
    last_step l.step (drop l.told-index l.told) ≡ last_step 0 l.told
