use Rattle.std.proofs.Common.{sym, ◌∙◌}
use Rattle.hub_session.proofs.opening.open_session.Goals as goal

pub returns-in-Ok-clause-ok : goal.returns-in-Ok-clause-ok
returns-in-Ok-clause-ok c =
    let is = c.in-Ok.ensures in
    let edition = sym c.edition_of.ensures ∙ c.in-Some.is in
    record { can = record { is = c.in-Some.edition; edition_is = edition; head = is.bounds.0; limits = is.bounds.1 }; new = is.ok }
