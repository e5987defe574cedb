use Rattle.std.proofs.Common.{◌≡◌, List}
use Rattle.hub_story.specs.declared.told.Told.{Told}
use Rattle.hub_story.specs.Leavers.{leavers}
use Rattle.hub_story.specs.Outside.{outside}
use Rattle.hub_story.proofs.outside.outside_of.Given as goal

abbrev pub invariant-loop-pid : goal.invariant-loop-pid
invariant-loop-pid l = (told : List Told) → l.left ≡ leavers l.entries told → l.all.items ≡ outside l.entries told l.waiting l.pid
