-- Those so far have the same capacities.
use Rattle.std.proofs.Common.{◌≡◌, take}
use Rattle.hub_parts.specs.Shapes.{caps_of}
use Rattle.hub_parts.proofs.board.have_caps_of.Given as goal

abbrev pub invariant-loop-place : goal.invariant-loop-place
invariant-loop-place l = caps_of (take l.place l.channels) ≡ caps_of (take l.place l.others)
