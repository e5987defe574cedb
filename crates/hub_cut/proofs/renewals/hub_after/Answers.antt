use Rattle.std.proofs.Common.{refl}
use Rattle.hub_cut.proofs.renewals.hub_after.Goals as goal

pub make_all-requires : goal.make_all-requires
make_all-requires c = record {
  can = rw c.in_ok-hub.ensures
      (record { fits = c.requires.fits; legal = c.requires.legal; few = c.requires.few; places = refl });
}
