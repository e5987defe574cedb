use Rattle.std.proofs.Common.{◌∙◌, ◌+◌, ◌++◌, ◌∷◌, [], List, ap, append_assoc, length, sym}
use Rattle.hub_base.specs.Entry.{Entry}
use Rattle.hub_core.specs.declared.brief.Brief.{Brief}
use Rattle.hub_core.specs.LogView.{LogView, written}
use Rattle.hub_core.proofs.Logs.{room_for_more}
use Rattle.hub_core.proofs.log.Log.keeps_short.Goals as goal

pub invariant_of-self-2 : goal.invariant_of-self-2
invariant_of-self-2 c = record {
  briefs = c.keep.ensures.briefs;
  begin = c.keep.ensures.begin;
  room = room_for_more c.self.inside (c.in-Ok.ensures.one_more ∙ ap (λ (bs : List Brief). length bs + 1) c.has_room.ensures.same) c.self.view_is
      c.requires.room;
}

pub returns-clause-items : goal.returns-clause-items
returns-clause-items c = λ yes.
    let e = c.args.entry.now in
    let own = c.self.inside in
    let whole = own.whole.items in
    ap (λ (es : List Entry). whole ++ es) (c.in-Ok.ensures.ok ∙ ap (λ (bs : List Brief). written bs own.cases.items ++ e ∷ []) c.has_room.ensures.same)
    ∙ sym (append_assoc whole (written own.briefs.items own.cases.items) (e ∷ []))
    ∙ ap (λ (es : List Entry). es ++ e ∷ []) (ap (λ (v : LogView). v.items) c.self.view_is)
