use Rattle.std.proofs.Common.{◌≤◌, length}
use Rattle.hub_served.specs.Given.{AreLinks, AreTurns}
use Rattle.hub_served.proofs.given.links_of.Given as goal

abbrev pub invariant-loop-left : goal.invariant-loop-left
invariant-loop-left l = record {
  within : l.left ≤ length l.entries;
  links : AreLinks l.links.items l.left l.entries;
  turns : AreTurns l.turns.items l.left l.entries;
}

abbrev pub decreases-loop-left : goal.decreases-loop-left
decreases-loop-left l = l.left
