use Rattle.std.proofs.Common.{◌∙◌, ap, sym}
use Rattle.hub_core.specs.LogView.{LogView}
use Rattle.hub_core.proofs.Logs.{all_whole}
use Rattle.hub_core.proofs.log.Log.as_slice.Goals as goal

pub returns : goal.returns
returns c =
    let none = ap (λ (v : LogView). v.short) c.self.view_is ∙ c.requires in
    c.deref.ensures.value ∙ sym (all_whole c.self.inside.whole.items c.self.inside.briefs.items c.self.inside.cases.items none)
    ∙ ap (λ (v : LogView). v.items) c.self.view_is
