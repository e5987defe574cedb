use Rattle.std.proofs.Common.{◌≡◌, ◌∙◌, ap, append-nil, arith, false, sym, true}
use Rattle.hub_story.specs.Outside.{outside}
use Rattle.hub_story.proofs.Outsiders.{outside-more}
use Rattle.hub_story.proofs.outside.outside_of.Goals.{then-is_outside+in_ok-push, else-is_outside}
use Rattle.hub_story.proofs.outside.outside_of.Goals as goal

pub loop-pid-preserved : goal.loop-pid-preserved
loop-pid-preserved c told left =
    let es = c.args.entries.now in
    let waiting = c.args.waiting.now in
    let was = c.loop-pid.invariant told left in
    elim c.if-is_outside.branch [
      | then-is_outside+in_ok-push w ↦
          rw w.all-is (outside-more es told waiting c.args.left.now c.loop-pid.pid true _ _ left (sym w.if-is_outside.true ∙ c.is_outside.ensures) was
          (rw (w.from.ensures, c.last_steps-last.ensures c.loop-pid.pid) at w.in_ok-push.ensures.items))
      | else-is_outside w ↦
          rw w.all-is
          (outside-more es told waiting c.args.left.now c.loop-pid.pid false _ _ left (sym w.if-is_outside.false ∙ c.is_outside.ensures) was
          (sym (append-nil c.loop-pid.all.items)))
    ]

pub returns : goal.returns
returns c told left =
    let last : c.loop-pid.pid ≡ c.args.procs = omega (arith, c.loop-pid.auto.pid-end, c.loop-pid-test.false) in
    c.loop-pid.invariant told left ∙ ap (outside c.args.entries.now told c.args.waiting.now) last
