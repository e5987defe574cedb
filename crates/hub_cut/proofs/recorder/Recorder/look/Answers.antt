use Rattle.std.proofs.Common.{◌∙◌, ap, sym, subst, slice_index, Some}
use Rattle.std.specs.Option.{option_map}
use Rattle.hub_cut.specs.Recorder.{Records}
use Rattle.hub_cut.specs.RecorderKeeps.{shown}
use Rattle.hub_cut.specs.Totals.{with_base}
use Rattle.hub_cut.proofs.Recording.{look_all}
use Rattle.hub_cut.proofs.recorder.Recorder.look.Goals as goal

pub returns-in_err-look : goal.returns-in_err-look
returns-in_err-look c = λ chapters so.
    let r = shown c.self.inside in
    rw (c.from_residual.ensures, ← c.self.view_is)
    (ap (option_map (with_base (slice_index r.bases c.args.port.0))) (sym c.in_err-look.was ∙ c.look.ensures)
    ∙ look_all r c.args.port chapters (subst (Records chapters) (sym c.self.view_is) so))

pub returns : goal.returns
returns c = λ chapters so.
    let r = shown c.self.inside in
    rw (← c.self.view_is)
    (ap Some (c.with_base.ensures ∙ ap (λ base. with_base base c.in_ok-look.look) c.base_of.ensures)
    ∙ ap (option_map (with_base (slice_index r.bases c.args.port.0))) (sym c.in_ok-look.was ∙ c.look.ensures)
    ∙ look_all r c.args.port chapters (subst (Records chapters) (sym c.self.view_is) so))
