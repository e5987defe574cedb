use Rattle.std.proofs.Common.{◌≡◌, take}
use Rattle.hub_cut.proofs.beginnings.begins_with.Given as goal

abbrev pub invariant-loop-place : goal.invariant-loop-place
invariant-loop-place l = take l.place l.entries ≡ take l.place l.checkpoint
