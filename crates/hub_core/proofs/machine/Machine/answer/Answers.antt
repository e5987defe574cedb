use Rattle.std.proofs.Common.{◌∙◌, ◌∷◌, ◌++◌, [], List, ap, sym, subst}
use Rattle.hub_base.specs.declared.event.Event.{Event}
use Rattle.hub_core.specs.Follows.{Answers}
use Rattle.hub_core.proofs.Following.{follows_refused}
use Rattle.hub_core.proofs.machine.Machine.answer.Goals as goal

pub returns-in-Some-clause-ok : goal.returns-in-Some-clause-ok
returns-in-Some-clause-ok c = λ head es h.
    let e = c.args.entry.now in
    let told = c.hear.ensures.heard ∙ ap (λ (xs : List Event). xs ++ c.tells.result ∷ []) c.empty.ensures ∙ ap (λ (x : Event). x ∷ []) c.tells.ensures in
    subst (Answers head es e c.args.self.now) (sym told) (follows_refused head es e c.args.self.now c.in-Some.fault h (sym (c.in-Some.ensures.run head es h)))
