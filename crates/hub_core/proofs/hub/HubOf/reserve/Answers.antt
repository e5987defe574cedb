use Rattle.std.proofs.Common.{◌∙◌, ap, sym, subst, arith, length, List}
use Rattle.hub_base.specs.Entry.{Entry}
use Rattle.hub_base.specs.Head.{AreOf}
use Rattle.hub_base.specs.Runs.{kept}
use Rattle.hub_base.specs.Text.{steps_of}
use Rattle.hub_core.specs.Follows.{Follows}
use Rattle.hub_core.specs.HubKeeps.{InForm}
use Rattle.hub_base.proofs.StepCounts.{steps-length}
use Rattle.hub_core.proofs.hub.HubOf.reserve.Goals as goal

pub invariant_of-self-then-k-self : goal.invariant_of-self-then-k-self
invariant_of-self-then-k-self g c =
    let same = c.in_ok-reserve_more.ensures.same in
    let few = steps-length c.self.inside.entries.items in (
      record {
        head = c.self.invariant.0.head;
        limit = c.self.invariant.0.limit;
        legal = ap (kept c.self.inside.terms.head) same ∙ c.self.invariant.0.legal ∙ sym same;
        fits = subst (AreOf c.self.inside.terms.head.edition) (sym same) c.self.invariant.0.fits;
        follows = subst (λ (es : List Entry). Follows c.self.inside.terms.head es c.self.inside.machine) (sym same) c.self.invariant.0.follows;
        count = c.self.invariant.0.count ∙ ap steps_of (sym same);
        within = c.self.invariant.0.within;
        room = omega (arith, few, c.in_ok-reserve_more.ensures.ok, ap (λ (es : List Entry). length es) same, c.self.invariant.0.count);
      },
      subst (InForm g.F.Form.whole) (sym c.in_ok-reserve_more.ensures.short) c.self.invariant.1,
    )
