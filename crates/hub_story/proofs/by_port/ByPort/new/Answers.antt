use Rattle.std.proofs.Common.{◌∷◌, [], ap, arith, length, length-append}
use Rattle.hub_story.proofs.OfPorts.{none-pushed}
use Rattle.hub_story.proofs.by_port.ByPort.new.Goals as goal

pub loop-number-preserved : goal.loop-number-preserved
loop-number-preserved g c = record {
  many = omega (
    arith,
    ap length c.in_ok-push.ensures.items,
    length-append c.loop-number.lists.items (c.new.result ∷ []),
    c.loop-number.invariant.many,
  );
  none = none-pushed c.loop-number.lists.items c.push.new.self.items c.new.result c.loop-number.invariant.none c.new.ensures.items
      c.in_ok-push.ensures.items;
}

pub invariant_of-result : goal.invariant_of-result
invariant_of-result g c = omega arith
