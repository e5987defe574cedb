use Rattle.std.proofs.Common.{arith, ◌≢◌}
use Rattle.hub_replay.proofs.Comparing.{agrees-line, agrees-other-parted, agrees-other-longer}
use Rattle.hub_replay.proofs.comparison.Comparison.end.Goals as goal
use Rattle.hub_replay.proofs.comparison.Comparison.end.Goals.{else-not-self-via-then-not-self+else-self, else-not-self-via-else-not-self}

pub returns : goal.returns
returns c = λ text so_far.
    let within = c.args.self.now.within in
    let other : c.args.self.now.bytes.now ≢ text =
    elim c.else-not-self.branch [
      | else-not-self-via-then-not-self+else-self w ↦ agrees-other-longer so_far w.if-not-self.true (omega arith)
      | else-not-self-via-else-not-self w ↦ agrees-other-parted so_far w.if-not-self.false
    ] in
    (other, agrees-line c.newlines.result so_far c.newlines.ensures)
