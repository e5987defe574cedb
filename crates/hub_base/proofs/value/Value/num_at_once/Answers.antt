-- The eight bytes are those of the number, with zeros behind them.
use Rattle.std.proofs.Common.{refl, arith, ◌∙◌}
use Rattle.hub_base.proofs.Values.{number-stored, number_is, padded_is}
use Rattle.hub_base.proofs.value.Value.num_at_once.Goals as goal

pub invariant_of-result : goal.invariant_of-result
invariant_of-result c = record {
  stored = number-stored c.args.number _ (omega arith)
      (padded_is _ c.copy_from_slice.new.self _ (c.copy_from_slice.ensures.after ∙ c.to_le_bytes.ensures) refl);
}

pub returns : goal.returns
returns c = number_is c.args.number _ _ (omega arith)
    (padded_is _ c.copy_from_slice.new.self _ (c.copy_from_slice.ensures.after ∙ c.to_le_bytes.ensures) refl)
