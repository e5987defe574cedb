-- `==` of two lists of events says whether they are equal.
use Rattle.std.proofs.Common.{◌≡◌, rules, arith}
use Rattle.std.specs.Bool.{Decides}
use Rattle.std.proofs.lemmas.Slice.Eq.{slice_eq-Decides}
use Rattle.hub_base.specs.declared.event.Event.{Event}
use Rattle.hub_base.specs.contracts.event.EventPartialEq as of_event
use Rattle.hub_base.proofs.Equal.{equal-tells}
use Rattle.hub_trials.proofs.answers.are_equal.Goals as goal

decides : (a b : Event) → Decides ((of_event.TheImpl.ghosts).eq a b) (a ≡ b)
decides a b = (search (rules, equal-tells, arith), search (rules, equal-tells, arith))

pub returns : goal.returns
returns c = slice_eq-Decides decides c.args.one.now c.args.other.now c.eq.result c.eq.ensures
