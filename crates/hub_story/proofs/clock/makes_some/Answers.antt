use Rattle.std.proofs.Common.{sym, ◌∙◌, arith}
use Rattle.hub_story.specs.Clock.{is_made}
use Rattle.hub_story.proofs.Clocks.{any-here, none-all, none-more}
use Rattle.hub_story.proofs.clock.makes_some.Goals as goal

pub returns-then-is_made : goal.returns-then-is_made
returns-then-is_made c =
    sym (any-here (is_made c.args.kind c.args.pid.0) c.args.entries.now c.loop-place.place c.entry.result (omega arith) c.entry.ensures
    (sym c.is_made.ensures ∙ c.if-is_made.true))

pub loop-place-preserved : goal.loop-place-preserved
loop-place-preserved c =
    none-more (is_made c.args.kind c.args.pid.0) c.args.entries.now c.loop-place.place c.entry.result (omega arith) c.entry.ensures
    (sym c.is_made.ensures ∙ c.if-is_made.false) c.loop-place.invariant

pub returns : goal.returns
returns c =
    sym (none-all (is_made c.args.kind c.args.pid.0) c.args.entries.now c.loop-place.place (omega arith) c.loop-place.invariant)
