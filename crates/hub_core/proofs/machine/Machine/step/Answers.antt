use Rattle.std.proofs.Common.{sym}
use Rattle.hub_core.proofs.Following.{refuses_for, admitted_as}
use Rattle.hub_core.proofs.machine.Machine.step.Goals as goal

pub returns-in-Some-clause-refused : goal.returns-in-Some-clause-refused
returns-in-Some-clause-refused c = λ head es h.
    refuses_for head es c.args.entry.now c.args.self.now c.in-Some.fault h c.in-Some.ensures.lists

pub returns-in-Err-clause-refused : goal.returns-in-Err-clause-refused
returns-in-Err-clause-refused c = λ head es h. (
  c.in-Err.ensures.err.make,
  admitted_as head es c.args.entry.now c.args.self.now h (sym c.in_default.ensures.lists),
)
