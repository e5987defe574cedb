use Rattle.std.proofs.Common.{◌∙◌, ◌∷◌, [], ap}
use Rattle.hub_base.specs.declared.event.Event.{Event}
use Rattle.hub_base.specs.declared.event.What.TheVariants as what
use Rattle.hub_base.specs.Steps.{tells}
use Rattle.hub_core.proofs.Hearing.{heard_as, heard_on}
use Rattle.hub_core.proofs.firing.CountedBoard.cancel.Goals as goal

pub returns-clause-told : goal.returns-clause-told
returns-clause-told g c =
    heard_as (heard_on g.met.E.Hears.goes_on (record { events = c.hear.ensures.heard; fits = c.hear.ensures.room })
    (record { events = c.hear-2.ensures.heard; fits = c.hear-2.ensures.room }))
    (ap (λ (e : Event). e ∷ c.tells-2.result ∷ []) c.tells.ensures
    ∙ ap (λ (e : Event). tells c.args.pid what.Done ∷ e ∷ []) c.tells-2.ensures)
