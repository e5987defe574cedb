use Rattle.std.proofs.Common.{◌∙◌, ◌++◌, ◌∷◌, [], List, ap, length}
use Rattle.hub_base.specs.Entry.{Entry}
use Rattle.hub_core.specs.LogView.{LogView}
use Rattle.hub_core.proofs.Logs.{Gains, gains_beside, room_for_more}
use Rattle.hub_core.proofs.log.Log.keeps_call.Goals.{After-push_reserved}
use Rattle.hub_core.proofs.log.Log.keeps_call.Goals as goal

gained : (c : After-push_reserved) → Gains c.self.inside.briefs.items c.push_reserved.new.self.items c.self.inside.cases.items c.put.new.self.items
    c.args.entry.now
gained c =
    let own = c.as_slice-beside.ensures.cases in
    gains_beside c.args.entry.now c.in-Call.cases c.in-Call.default c.in-Call.word c.len-first.result (length c.as_slice-beside.result.now)
    c.self.invariant.briefs c.in-Call.is (ap length own) c.len-first.ensures c.push_reserved.ensures.items own c.as_slice-beside.ensures.few
    c.put.ensures

pub invariant_of-self : goal.invariant_of-self
invariant_of-self c = record {
  briefs = (gained c).briefs;
  begin = (gained c).begin c.self.invariant.begin;
  room = room_for_more c.self.inside (gained c).one c.self.view_is c.requires.room;
}

pub returns-clause-items : goal.returns-clause-items
returns-clause-items c = λ yes.
    (gained c).items c.self.inside.whole.items
    ∙ ap (λ (es : List Entry). es ++ c.args.entry.now ∷ []) (ap (λ (v : LogView). v.items) c.self.view_is)
