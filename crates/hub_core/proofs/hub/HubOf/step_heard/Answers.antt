use Rattle.std.proofs.Common.{arith, ◌≡◌, ◌∙◌, ap, sym, subst, true}
use Rattle.hub_base.specs.Head.{is_of}
use Rattle.hub_core.specs.HubKeeps.{Takes}
use Rattle.hub_core.specs.HubView.{HubView, ShortInMemory}
use Rattle.hub_core.proofs.Hubs.{has_place, keeps_made, turn_admitted, turn_steps, refused_so, rules_made, rules_refused, steps_made}
use Rattle.hub_core.proofs.hub.HubOf.step_heard.Goals as goal

pub step_admitted-requires-clause-steps : goal.step_admitted-requires-clause-steps
step_admitted-requires-clause-steps g c = turn_steps c.self.inside c.self.invariant.0

pub step_admitted-requires-clause-admitted : goal.step_admitted-requires-clause-admitted
step_admitted-requires-clause-admitted g c =
    let takes = subst (λ (m : ShortInMemory). Takes m.memory c.args.entry.now) (sym c.self.view_is) c.in_ok-admit.ensures.ok in
    turn_admitted c.self.inside c.args.entry.now.pid c.self.invariant.0 takes.admitted

pub append-requires-clause-room : goal.append-requires-clause-room
append-requires-clause-room g c =
    let takes = subst (λ (m : ShortInMemory). Takes m.memory c.args.entry.now) (sym c.self.view_is) c.in_ok-admit.ensures.ok in
    omega (arith, has_place c.self.inside c.args.entry.now c.self.invariant.0 takes)

pub invariant_of-self-2 : goal.invariant_of-self-2
invariant_of-self-2 g c =
    let takes = subst (λ (m : ShortInMemory). Takes m.memory c.args.entry.now) (sym c.self.view_is) c.in_ok-admit.ensures.ok in
    let was = ap (λ (m : ShortInMemory). m.memory.hub) c.self.view_is ∙ c.in_ok-admit.ensures.same in
    let fits = subst (λ (h : HubView). is_of h.terms.head.edition c.args.entry.now.step ≡ true) (sym was) c.requires.fits in (
      keeps_made c.self.inside c.args.entry.now c.append.new.entries c.step_admitted.new.self _ _ _ c.self.invariant.0
          takes fits c.in-Ok.ensures.ok c.append.ensures.items c.append.ensures.capacity c.count_after-self-inside.ensures
          c.places_after-self-inside.ensures,
      c.append.ensures.whole,
    )

pub returns-in_err-admit-clause-rules : goal.returns-in_err-admit-clause-rules
returns-in_err-admit-clause-rules g c =
    refused_so c.from_residual.result c.in_err-admit.field-0.0 c.from_residual.ensures c.in_err-admit.ensures.rules

pub returns-in_default-clause-rules : goal.returns-in_default-clause-rules
returns-in_default-clause-rules g c =
    let takes = subst (λ (m : ShortInMemory). Takes m.memory c.args.entry.now) (sym c.self.view_is) c.in_ok-admit.ensures.ok in
    let was = ap (λ (m : ShortInMemory). m.memory.hub) c.self.view_is ∙ c.in_ok-admit.ensures.same in
    rules_refused c.self.invariant.0 takes c.in_default.ensures.err c.in_ok-admit.ensures.rules was was
    (ap (λ (m : ShortInMemory). m.memory.capacity) c.self.view_is)

pub returns-clause-ok : goal.returns-clause-ok
returns-clause-ok g c =
    let takes = subst (λ (m : ShortInMemory). Takes m.memory c.args.entry.now) (sym c.self.view_is) c.in_ok-admit.ensures.ok in
    let was = ap (λ (m : ShortInMemory). m.memory.hub) c.self.view_is ∙ c.in_ok-admit.ensures.same in
    record {
      told = _;
      heard = c.in-Ok.ensures.told.events;
      steps =
          steps_made c.args.entry.now c.self.invariant.0 takes c.in-Ok.ensures.ok was
          (λ i. record { terms = c.self.inside.terms; journal = c.append.ensures.items i; places = c.places_after-self-inside.ensures i });
    }

pub returns-clause-rules : goal.returns-clause-rules
returns-clause-rules g c =
    rules_made c.in_ok-admit.ensures.rules (c.append.ensures.capacity ∙ ap (λ (m : ShortInMemory). m.memory.capacity) c.self.view_is)
