use Rattle.std.proofs.Common.{◌∙◌, sym, arith}
use Rattle.hub_story.specs.Clock.{is_step_of}
use Rattle.hub_story.proofs.Clocks.{all-counted, none-counted, one-counted}
use Rattle.hub_story.proofs.clock.steps_made.Goals as goal
use Rattle.hub_story.proofs.clock.steps_made.Goals.{then-is_step_of, else-is_step_of}

pub loop-place-preserved : goal.loop-place-preserved
loop-place-preserved c =
    let counted = c.loop-place.invariant in
    elim c.if-is_step_of.branch [
      | then-is_step_of w ↦ (
        w.made-is
            ∙ one-counted (is_step_of c.args.pid.0) c.args.entries.now c.loop-place.place c.entry.result c.loop-place.made (omega arith) c.entry.ensures
            (sym c.is_step_of.ensures ∙ w.if-is_step_of.true) counted.0,
        omega (arith, w.made-is, counted.1),
      )
      | else-is_step_of w ↦ (
        w.made-is
            ∙ none-counted (is_step_of c.args.pid.0) c.args.entries.now c.loop-place.place c.entry.result c.loop-place.made (omega arith) c.entry.ensures
            (sym c.is_step_of.ensures ∙ w.if-is_step_of.false) counted.0,
        omega (arith, w.made-is, counted.1),
      )
    ]

pub returns : goal.returns
returns c =
    all-counted (is_step_of c.args.pid.0) c.args.entries.now c.loop-place.place c.loop-place.made (omega arith) c.loop-place.invariant.0
