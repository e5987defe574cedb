use Rattle.std.proofs.Common.{◌∙◌, ◌++◌, List, ap, length, arith}
use Rattle.hub_core.specs.declared.brief.Brief.{Brief}
use Rattle.hub_core.specs.LogView.{LogView, written}
use Rattle.hub_core.proofs.Logs.{all_length, all_whole, none_begins, none_short}
use Rattle.hub_core.proofs.log.Log.write_out.Goals as goal

pub invariant_of-self : goal.invariant_of-self
invariant_of-self c = record {
  briefs = none_short c.clear.new.self.items c.clear-2.new.self.items c.clear.ensures.items c.clear-2.ensures;
  begin = none_begins c.clear.new.self.items c.clear.ensures.items;
  room = omega (arith, ap length c.clear.ensures.items, c.write_out.new.whole.ok);
}

pub returns-clause-items : goal.returns-clause-items
returns-clause-items c =
    all_whole c.write_out.new.whole.items c.clear.new.self.items c.clear-2.new.self.items (ap length c.clear.ensures.items)
    ∙ c.write_out.ensures.items
    ∙ ap (λ (bs : List Brief). c.self.inside.whole.items ++ written bs c.self.inside.cases.items) c.deref.ensures.value
    ∙ ap (λ (v : LogView). v.items) c.self.view_is

pub returns-clause-room : goal.returns-clause-room
returns-clause-room c =
    omega (
      arith,
      all_length c.write_out.new.whole.items c.clear.new.self.items c.clear-2.new.self.items,
      ap length c.clear.ensures.items,
      c.write_out.new.whole.ok,
    )
