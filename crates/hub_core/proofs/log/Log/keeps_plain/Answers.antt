use Rattle.std.proofs.Common.{◌∙◌, ◌++◌, ◌∷◌, [], List, ap}
use Rattle.hub_base.specs.Entry.{Entry}
use Rattle.hub_core.specs.LogView.{LogView}
use Rattle.hub_core.proofs.Logs.{gains_whole, room_for_more}
use Rattle.hub_core.proofs.log.Log.keeps_plain.Goals as goal

pub invariant_of-self : goal.invariant_of-self
invariant_of-self c =
    let v = c.self.view_is in
    let more = gains_whole c.args.entry.now c.self.invariant.briefs c.in-Some.ensures c.push_reserved.ensures.items in
    record {
      briefs = more.briefs;
      begin = more.begin c.self.invariant.begin;
      room = room_for_more c.self.inside more.one v c.requires.room;
    }

pub returns-in-Some-clause-items : goal.returns-in-Some-clause-items
returns-in-Some-clause-items c = λ yes.
    let more = gains_whole c.args.entry.now c.self.invariant.briefs c.in-Some.ensures c.push_reserved.ensures.items in
    more.items c.self.inside.whole.items ∙ ap (λ (es : List Entry). es ++ c.args.entry.now ∷ []) (ap (λ (v : LogView). v.items) c.self.view_is)
