use Rattle.std.proofs.Common.{[], refl, rules}
use Rattle.hub_base.specs.declared.limits.TheConstants.{MOST_PROCS}
use Rattle.hub_core.proofs.Counting.{count-none_gone}
use Rattle.hub_core.proofs.Following.{follows_opening}
use Rattle.hub_core.proofs.machine.Machine.new.Goals as goal

pub invariant_of-result : goal.invariant_of-result
invariant_of-result c = rw (c.none.ensures.gone, c.none.ensures.count, c.in_ok-new.ensures, c.new-2.ensures) record {
  reached = (c.args.head, [], follows_opening c.args.head);
  procs = refl;
  few = search rules;
  count = count-none_gone MOST_PROCS c.args.head.procs;
}

pub returns : goal.returns
returns c = rw (c.none.ensures.gone, c.in_ok-new.ensures, c.new-2.ensures) (follows_opening c.args.head)
