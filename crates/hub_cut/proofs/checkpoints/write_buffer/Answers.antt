use Rattle.std.proofs.Common.{◌+◌}
use Rattle.hub_core.specs.HubView.{state_of}
use Rattle.hub_core.specs.Looks.{value_at}
use Rattle.hub_chapters.specs.Checkpoint.{send_again}
use Rattle.hub_cut.specs.Written.{one_of, sent_entries}
use Rattle.hub_cut.proofs.Parts.{grown, sent_more}
use Rattle.hub_cut.proofs.checkpoints.write_buffer.Goals as goal

pub loop-place-preserved : goal.loop-place-preserved
loop-place-preserved c =
    let s = state_of c.args.hub.now.memory.hub in
    let n = c.loop-place.place in
    grown c.args.entries.now.items c.loop-place.entries.items c.write_value.new.entries.items (sent_entries s c.args.port n)
    (one_of (send_again c.args.port.0) (value_at s c.args.port n)) (sent_entries s c.args.port (n + 1))
    c.in_ok-write_value.ensures c.loop-place.invariant (sent_more s c.args.port n)
