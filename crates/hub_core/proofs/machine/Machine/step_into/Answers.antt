use Rattle.std.proofs.Common.{◌≡◌, ◌∙◌, ◌∷◌, [], Some, ap, sym, subst, arith, Result, Ok, Err}
use Rattle.std.specs.Prelude.{OnOk}
use Rattle.hub_base.specs.declared.event.Event.{Event}
use Rattle.hub_base.specs.declared.event.What.TheVariants as what
use Rattle.hub_base.specs.Steps.{tells}
use Rattle.hub_base.specs.declared.value.Pid.{Pid}
use Rattle.hub_core.specs.Prelude.{refusal, state}
use Rattle.hub_core.proofs.Following.{follows_refused}
use Rattle.hub_core.proofs.machine.Machine.step_into.Goals as goal

pub returns-in-Some-clause-ok : goal.returns-in-Some-clause-ok
returns-in-Some-clause-ok g c = λ head es h.
    let run = subst (λ (p : Pid). Some c.in-Some.fault ≡ refusal (state head es) p) c.pid-pid.ensures (c.in-Some.ensures.run head es h) in
    let refused = follows_refused head es c.args.place.now c.args.self.now c.in-Some.fault h (sym run) in
    record {
      told = tells c.args.place.now.pid (what.Fault c.in-Some.fault) ∷ [];
      heard = subst (λ (e : Event). g.E.Hears.heard c.args.events.now (e ∷ []) c.hear.new.self)
          (c.tells.ensures ∙ ap (λ p. tells p (what.Fault c.in-Some.fault)) c.pid-pid.ensures) c.hear.ensures.heard;
      answers = refused;
      few = omega arith;
    }

on_ok : {E : Type 0} {P Q R T : Type 0} (r : Result (Unit {0}) E) → (P → Q → R → T) → OnOk r P → OnOk r Q → OnOk r R → OnOk r T
on_ok (Ok done) so p q r = so p q r
on_ok (Err e) so p q r = tt

pub returns-clause-ok : goal.returns-clause-ok
returns-clause-ok g c =
    rw (← c.entry.ensures) (on_ok c.step_admitted.result
    (λ turns heard few. λ head es h.
    let admits = turns.ok head es h in
    record { told = _; heard = heard.events; answers = record { events = admits.events; follows = admits.follows }; few = few })
    c.step_admitted.ensures.ok c.step_admitted.ensures.told c.step_admitted.ensures.few)
