use Rattle.std.proofs.Common.{refl}
use Rattle.hub_core.proofs.Hearing.{heard_as, heard_on}
use Rattle.hub_core.proofs.closing.close.Goals as goal

pub returns-clause-told : goal.returns-clause-told
returns-clause-told g c =
    heard_as (heard_on g.met.E.Hears.goes_on (record { events = c.hear.ensures.heard; fits = c.hear.ensures.room }) c.end_calls.ensures.told) refl
