use Rattle.std.proofs.Common.{◌∙◌, ap, arith, subst}
use Rattle.hub_base.specs.declared.head.Head.{Head}
use Rattle.hub_base.specs.Head.{is_of}
use Rattle.hub_base.specs.Text.{Fits}
use Rattle.hub_cut.proofs.Renewing.{one_admitted, one_fits, one_made, one_room}
use Rattle.hub_cut.proofs.making.make.Goals as goal

pub step_admitted_heard-requires : goal.step_admitted_heard-requires
step_admitted_heard-requires c =
    let hub = c.args.next.now.memory.hub in
    let e = c.args.entry.now in
    record {
      fits = one_fits hub e c.requires.can;
      room = one_room hub e c.requires.can;
      admitted = one_admitted hub e c.requires.can;
      hears = omega arith;
    }

pub returns : goal.returns
returns c =
    let hub = c.args.next.now.memory.hub in
    let e = c.args.entry.now in
    let same = ap (λ (h : Head). h.edition) c.head.ensures.value in
    let is = c.fits-fits.ensures.is ∙ ap (λ ed. is_of ed e.step) same ∙ one_fits hub e c.requires.can in
    let fits : Fits hub.terms.head.edition e = subst (λ ed. Fits ed e) same (c.fits-fits.ensures.fits is) in
    one_made hub c.step_admitted_heard.new.hub.memory.hub e c.in_ok-step_admitted_heard.ensures.ok.told c.requires.can fits
    c.in_ok-step_admitted_heard.ensures.ok.steps
