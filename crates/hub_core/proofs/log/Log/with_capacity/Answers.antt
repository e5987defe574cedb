use Rattle.std.proofs.Common.{◌∙◌, ap, arith, length}
use Rattle.hub_core.proofs.Logs.{all_whole, none_begins, none_short}
use Rattle.hub_core.proofs.log.Log.with_capacity.Goals as goal

pub invariant_of-result : goal.invariant_of-result
invariant_of-result c = record {
  briefs = none_short c.new.result.items c.new-2.result.items c.new.ensures.items c.new-2.ensures;
  begin = none_begins c.new.result.items c.new.ensures.items;
  room = omega (arith, c.in_ok-with_capacity.ensures.len, ap length c.new.ensures.items);
}

pub returns-clause-items : goal.returns-clause-items
returns-clause-items c =
    all_whole c.in_ok-with_capacity.field-0.items c.new.result.items c.new-2.result.items (ap length c.new.ensures.items)
    ∙ c.in_ok-with_capacity.ensures.items
