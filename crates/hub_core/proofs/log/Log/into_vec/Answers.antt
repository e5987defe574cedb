use Rattle.std.proofs.Common.{◌∙◌, ap, sym}
use Rattle.hub_core.specs.LogView.{LogView}
use Rattle.hub_core.proofs.Logs.{all_whole}
use Rattle.hub_core.proofs.log.Log.into_vec.Goals as goal

pub returns : goal.returns
returns c =
    let inside = c.log.inside in
    sym (all_whole inside.whole.items inside.briefs.items inside.cases.items (ap (λ (v : LogView). v.short) c.log.view_is ∙ c.write_out.ensures.short))
    ∙ ap (λ (v : LogView). v.items) c.log.view_is ∙ c.write_out.ensures.items
