use Rattle.std.proofs.Common.{◌∙◌, ◌+◌, ◌++◌, ◌∷◌, [], ap, map, cond, filter}
use Rattle.std.specs.List.{range_with_len}
use Rattle.hub_base.specs.Steps.{has_gone}
use Rattle.hub_core.specs.HubView.{state_of}
use Rattle.hub_base.specs.Notation.{exit}
use Rattle.hub_cut.proofs.Parts.{at_procs, grown, gone_more}
use Rattle.hub_cut.proofs.checkpoints.write_exits.Goals as goal

pub loop-number-preserved : goal.loop-number-preserved
loop-number-preserved c =
    let s = state_of c.args.hub.now.memory.hub in
    let n = c.loop-number.number in
    grown c.args.entries.now.items c.loop-number.entries.items c.write_exit.new.entries.items (map exit (filter (has_gone s) (range_with_len 0 n)))
    (map exit (cond (has_gone s n) (n ∷ []) [])) (map exit (filter (has_gone s) (range_with_len 0 (n + 1))))
    (c.in_ok-write_exit.ensures ∙ ap (λ b. c.loop-number.entries.items ++ map exit (cond b (n ∷ []) [])) c.has_gone.ensures)
    c.loop-number.invariant (gone_more (has_gone s) n)

pub returns : goal.returns
returns c =
    let hub = c.args.hub.now.memory.hub in
    let same = at_procs hub _ _ c.head-number-end.ensures.value c.loop-number-test.false c.loop-number.auto.number-end in
    c.loop-number.invariant ∙ ap (λ n. c.args.entries.now.items ++ map exit (filter (has_gone (state_of hub)) (range_with_len 0 n))) same
