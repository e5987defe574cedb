use Rattle.std.proofs.Common.{arith}
use Rattle.std.proofs.lemmas.Grind.{common_steps}
use Rattle.hub_core.proofs.Counting.{all_wait-counts, count-le-procs}
use Rattle.hub_core.proofs.stalling.all_wait.Goals as goal

pub overflow_add-result : goal.overflow_add-result
overflow_add-result c = omega (arith, count-le-procs c.args.exited.now.gone c.args.procs)

pub returns-then-waiting-ne0 : goal.returns-then-waiting-ne0
returns-then-waiting-ne0 c =
    let counts = all_wait-counts c.args.board.now c.args.exited.now.gone c.args.exited.now.count c.args.procs
    c.requires.procs c.requires.count c.requires.apart c.requires.present in
    grind (arith, common_steps)
