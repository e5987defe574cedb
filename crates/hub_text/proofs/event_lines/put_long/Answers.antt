use Rattle.std.proofs.Common.{◌/◌, arith, decimal}
use Rattle.hub_text.specs.Writing.{Puts}
use Rattle.hub_text.proofs.Puts.{puts_four, puts_eight, puts_within}
use Rattle.hub_text.proofs.event_lines.put_long.Goals.{then-first-ge100000000, else-first-ge100000000+then-first-ge10000}
use Rattle.hub_text.proofs.event_lines.put_long.Goals.{else-first-ge100000000+else-first-ge10000}
use Rattle.hub_text.proofs.event_lines.put_long.Goals as goal

-- what stands before the last eight digits is put in one of three ways
pub returns : goal.returns
returns c =
    let first = c.args.n / 100000000 in
    let head : Puts c.args.out.now c.if-first-ge100000000.out c.args.at (decimal first) 12 c.if-first-ge100000000.end =
    elim c.if-first-ge100000000.branch [
      | then-first-ge100000000 w ↦
          rw (w.out-is, w.end-is)
          (puts_eight _ _ _ _ _ _ _ _ first 4 12 (omega arith) (omega arith) (omega arith) w.put_short-end.ensures w.put_four-end.ensures
          w.put_four-end-then-first-ge100000000.ensures)
      | else-first-ge100000000+then-first-ge10000 w ↦
          rw (w.out-is, w.end-is)
          (puts_four _ _ _ _ _ _ first 4 12 (omega arith) (omega arith) (omega arith) w.put_short-end-then-first-ge10000.ensures w.put_four.ensures)
      | else-first-ge100000000+else-first-ge10000 w ↦ rw (w.out-is, w.end-is) (puts_within (omega arith) w.put_short.ensures)
    ] in
    puts_eight _ _ _ _ _ _ _ _ c.args.n 12 20 (omega arith) (omega arith) (omega arith) head c.put_four-end-2.ensures c.put_four-2.ensures
