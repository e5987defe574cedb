use Rattle.std.proofs.Common.{◌∙◌, ◌++◌, ◌∷◌, [], List, ap, sym}
use Rattle.hub_base.specs.Entry.{Entry}
use Rattle.hub_core.specs.LogView.{LogView}
use Rattle.hub_core.proofs.Logs.{all_whole}
use Rattle.hub_core.proofs.log.Log.push.Goals as goal

pub returns-clause-items : goal.returns-clause-items
returns-clause-items c =
    let inside = c.self.inside in
    let none = ap (λ (v : LogView). v.short) c.self.view_is ∙ c.requires.whole in
    all_whole c.push_reserved.new.self.items inside.briefs.items inside.cases.items none ∙ c.push_reserved.ensures.items
    ∙ ap (λ (es : List Entry). es ++ c.args.entry ∷ [])
    (sym (all_whole inside.whole.items inside.briefs.items inside.cases.items none) ∙ ap (λ (v : LogView). v.items) c.self.view_is)
