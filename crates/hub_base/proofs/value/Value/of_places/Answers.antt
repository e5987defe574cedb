use Rattle.std.proofs.Common.{◌≡◌, ◌+◌, ◌∙◌, true, length, ap, refl}
use Rattle.hub_base.specs.Content.{is_stored, padded}
use Rattle.hub_base.specs.Content.Content.{Bytes}
use Rattle.hub_base.specs.Value.{bytes_of, content}
use Rattle.hub_base.proofs.Values.{bytes_are, bytes-stored, content-saying, first_is}
use Rattle.hub_base.proofs.value.Value.of_places.Goals.{After-first}
use Rattle.hub_base.proofs.value.Value.of_places.Goals as goal

-- behind the bytes there are zeros
places : (c : After-first) → c.args.places ≡ padded c.first.result.now
places c = first_is c.args.len c.args.places _ c.first.ensures.bytes c.first.ensures.count c.requires.zeros

-- so they are stored
stored : (c : After-first) → is_stored (length c.first.result.now + 1) c.args.places ≡ true
stored c = bytes-stored c.first.result.now _ c.args.places c.first.ensures.fits refl (places c)

pub invariant_of-result : goal.invariant_of-result
invariant_of-result c = record { stored = stored c }

pub returns-clause-is : goal.returns-clause-is
returns-clause-is c =
    bytes_are c.first.result.now _ c.args.places _ refl (places (goal.at.returns-clause-is c).After-first) ∙ ap bytes_of c.first.ensures.bytes

pub returns-clause-says : goal.returns-clause-says
returns-clause-says c =
    let first = (goal.at.returns-clause-says c).After-first in
    ap content (bytes_are c.first.result.now _ c.args.places (stored first) refl (places first))
    ∙ content-saying (Bytes c.first.result.now) c.first.ensures.fits ∙ ap Bytes c.first.ensures.bytes
