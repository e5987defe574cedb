use Rattle.std.proofs.Common.{refl}
use Rattle.hub_text.proofs.quick.bytes_into.Goals as goal

pub returns : goal.returns
returns c edition has = record {
  value = c.bytes_at-end.result.0;
  is = refl;
  there = c.bytes_at-end.ensures edition has;
}
