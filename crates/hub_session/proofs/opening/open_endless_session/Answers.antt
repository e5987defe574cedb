use Rattle.std.proofs.Common.{rules, sym, ◌∙◌, arith}
use Rattle.hub_session.proofs.opening.open_endless_session.Goals as goal

pub returns-in-Ok-clause-ok : goal.returns-in-Ok-clause-ok
returns-in-Ok-clause-ok c =
    let is = c.in-Ok.ensures in
    let edition = sym c.edition_of.ensures ∙ c.in-Some.is in
    record {
      can = record { is = c.in-Some.edition; edition_is = edition; head = is.bounds; limits = (omega arith, omega arith) };
      keeps = (search rules, search rules);
      new = is.ok;
    }
