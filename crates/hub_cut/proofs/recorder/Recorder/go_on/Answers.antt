use Rattle.std.proofs.Common.{◌≡◌, ◌∙◌, ap, arith, sym, subst, true}
use Rattle.std.proofs.lemmas.Result.{err_from_is_err_and}
use Rattle.hub_base.specs.declared.head.Edition.{Edition}
use Rattle.hub_base.specs.declared.head.Head.{Head}
use Rattle.hub_base.specs.Head.{is_of}
use Rattle.hub_core.specs.HubView.{HubView}
use Rattle.hub_cut.specs.Recorder.{RecorderView, head_of_all}
use Rattle.hub_cut.specs.RecorderKeeps.{shown}
use Rattle.hub_cut.proofs.Recording.{begins_as, goes_next, keeps_next, none_counts, one_counts, recorder_fresh, refuses_next}
use Rattle.hub_cut.proofs.recorder.Recorder.go_on.Goals as goal

pub returns-in_err-step_heard-clause-refused : goal.returns-in_err-step_heard-clause-refused
returns-in_err-step_heard-clause-refused g c =
    let p = err_from_is_err_and c.from_residual.result c.from_residual.ensures.1 in
    let e = c.args.entry.now in
    rw (p.1, p.2, ← c.self.view_is)
    (refuses_next (shown c.self.inside) e c.in_err-step_heard.field-0.0 c.self.invariant.head c.self.invariant.limit c.self.invariant.keep
    (begins_as e.step c.self.view_is c.requires.room) c.in_err-step_heard.ensures.rules.refused)

pub most_line-bytes-requires : goal.most_line-bytes-requires
most_line-bytes-requires g c =
    let e = c.args.entry.now in
    let fits : is_of (head_of_all (shown c.self.inside)).edition e.step ≡ true =
    subst (λ (r : RecorderView). is_of (head_of_all r).edition e.step ≡ true) (sym c.self.view_is) c.requires.fits in
    let head = ap (λ (h : HubView). h.terms.head.edition) c.in_ok-step_heard.ensures.ok.steps.journal in
    record { fits = subst (λ (ed : Edition). is_of ed e.step ≡ true) (sym (ap (λ (h : Head). h.edition) c.head.ensures.value ∙ head)) fits }

pub overflow_add-self : goal.overflow_add-self
overflow_add-self g c =
    omega (arith, recorder_fresh (shown c.self.inside) c.self.invariant.head c.self.invariant.keep c.self.invariant.recorder)

pub invariant_of-self-then-not-is_exit : goal.invariant_of-self-then-not-is_exit
invariant_of-self-then-not-is_exit g c =
    let e = c.args.entry.now in
    let counts = one_counts e _ _ c.most_line-bytes.result (sym c.is_exit.ensures ∙ c.if-not-is_exit.true) c.most_line-bytes.ensures.most in
    keeps_next _ e c.step_heard.new.self _ _ _ _ c.self.invariant (begins_as e.step c.self.view_is c.requires.room)
    c.in_ok-step_heard.ensures.ok.steps counts.0 counts.1 c.most_line-bytes.ensures.fits c.most_line-bytes.ensures.most c.most_line-bytes.ensures.few

pub returns-then-not-is_exit-clause-ok : goal.returns-then-not-is_exit-clause-ok
returns-then-not-is_exit-clause-ok g c =
    let e = c.args.entry.now in
    let counts = one_counts e _ _ c.most_line-bytes.result (sym c.is_exit.ensures ∙ c.if-not-is_exit.true) c.most_line-bytes.ensures.most in
    let next = c.in_ok-step_heard.ensures.ok in
    let goes = goes_next (shown c.self.inside) e _ _ _ _ (begins_as e.step c.self.view_is c.requires.room) next.steps counts.0 counts.1 in
    record { told = next.told; heard = next.heard; holds = rw (← c.self.view_is) goes }

pub invariant_of-self-else-not-is_exit : goal.invariant_of-self-else-not-is_exit
invariant_of-self-else-not-is_exit g c =
    let e = c.args.entry.now in
    let counts = none_counts e _ _ (sym c.is_exit.ensures ∙ c.if-not-is_exit.false) in
    keeps_next _ e c.step_heard.new.self _ _ _ _ c.self.invariant (begins_as e.step c.self.view_is c.requires.room)
    c.in_ok-step_heard.ensures.ok.steps counts.0 counts.1 c.most_line-bytes.ensures.fits c.most_line-bytes.ensures.most c.most_line-bytes.ensures.few

pub returns-else-not-is_exit-clause-ok : goal.returns-else-not-is_exit-clause-ok
returns-else-not-is_exit-clause-ok g c =
    let e = c.args.entry.now in
    let counts = none_counts e _ _ (sym c.is_exit.ensures ∙ c.if-not-is_exit.false) in
    let next = c.in_ok-step_heard.ensures.ok in
    let goes = goes_next (shown c.self.inside) e _ _ _ _ (begins_as e.step c.self.view_is c.requires.room) next.steps counts.0 counts.1 in
    record { told = next.told; heard = next.heard; holds = rw (← c.self.view_is) goes }
