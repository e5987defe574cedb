use Rattle.std.proofs.Common.{◌∙◌, ap, sym, subst}
use Rattle.hub_base.specs.Head.{is_of}
use Rattle.hub_core.specs.HubView.{HubView, state_of}
use Rattle.hub_chapters.specs.Checkpoint.{checkpoint}
use Rattle.hub_cut.specs.Cut.{IsCut}
use Rattle.hub_cut.proofs.Parts.{cut_law}
use Rattle.hub_cut.proofs.Cutting.{few_behind, steps_behind, admitted_behind}
use Rattle.hub_cut.specs.ChapterText.{FitLines, most_line}
use Rattle.hub_cut.proofs.ChapterTexts.{checkpoint_lines_fit, counts_behind}
use Rattle.hub_cut.proofs.cuts.renewed_after.Goals as goal

pub step_admitted_heard-requires : goal.step_admitted_heard-requires
step_admitted_heard-requires g c =
    let old = c.args.hub.now.memory.hub in
    let cut = subst (IsCut old) (sym c.in_ok-next.ensures.hub) (cut_law old) in
    record {
      fits = ap (λ (h : HubView). is_of h.terms.head.edition c.args.entry.now.step) c.in_ok-next.ensures.hub ∙ c.requires.fits.of_edition;
      room = λ step. few_behind old c.in_ok-next.next.hub.memory.hub cut c.requires.room;
      admitted = admitted_behind old c.in_ok-next.next.hub.memory.hub c.args.entry.now cut c.requires.admitted;
      hears = c.requires.hears;
    }

pub returns-clause-ok : goal.returns-clause-ok
returns-clause-ok g c =
    let old = c.args.hub.now.memory.hub in
    let cut = subst (IsCut old) (sym c.in_ok-next.ensures.hub) (cut_law old) in
    let next = c.in_ok-step_admitted_heard.ensures.ok in
    record {
      told = next.told;
      heard = next.heard;
      holds = steps_behind old c.in_ok-next.next.hub.memory.hub c.step_admitted_heard.new.hub.memory.hub c.args.entry.now next.told cut next.steps;
    }

pub returns-clause-lines : goal.returns-clause-lines
returns-clause-lines g c =
    let old = c.args.hub.now.memory.hub in
    let cut = subst (IsCut old) (sym c.in_ok-next.ensures.hub) (cut_law old) in
    let next = c.in_ok-step_admitted_heard.ensures.ok in
    let steps = steps_behind old c.in_ok-next.next.hub.memory.hub c.step_admitted_heard.new.hub.memory.hub c.args.entry.now next.told cut next.steps in
    subst (λ es. FitLines es (most_line c.args.entry.now)) (sym steps.journal)
    (counts_behind (checkpoint (state_of old)) c.args.entry.now old.terms.head.edition c.requires.fits
    (checkpoint_lines_fit (state_of old) c.in_ok-next.ensures.lines))
