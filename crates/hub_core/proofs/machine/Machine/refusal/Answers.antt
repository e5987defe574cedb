use Rattle.std.proofs.Common.{◌∙◌, sym, subst}
use Rattle.hub_base.specs.Runs.{state}
use Rattle.hub_core.specs.Follows.{Follows}
use Rattle.hub_core.proofs.Stalls.{refusal_of-as}
use Rattle.hub_core.proofs.machine.Machine.refusal.Goals as goal

pub returns-clause-run : goal.returns-clause-run
returns-clause-run c = λ head es h.
    c.refusal.ensures ∙ refusal_of-as (state head es) _ c.args.pid (subst (Follows head es) (sym c.self.view_is) h).matches
