use Rattle.std.proofs.Common.{◌∙◌, ◌+◌, ◌++◌, ap, arith, take}
use Rattle.std.specs.Prelude.{List}
use Rattle.hub_base.specs.State.{Channel}
use Rattle.hub_core.specs.HubView.{state_of}
use Rattle.hub_chapters.specs.Checkpoint.{ports_again}
use Rattle.hub_cut.specs.Written.{port_entries}
use Rattle.hub_cut.proofs.Parts.{grown, ports_more, all_ports}
use Rattle.hub_cut.proofs.checkpoints.write_ports.Goals as goal

pub loop-index-preserved : goal.loop-index-preserved
loop-index-preserved c =
    let s = state_of c.args.hub.now.memory.hub in
    let n = c.loop-index.index in
    grown c.args.entries.now.items c.loop-index.entries.items c.write_port.new.entries.items (ports_again 1 (take n s.channels))
    (port_entries s (record { 0 = n + 1 })) (ports_again 1 (take (n + 1) s.channels))
    c.in_ok-write_port.ensures c.loop-index.invariant (ports_more n s)

pub returns : goal.returns
returns c =
    let hub = c.args.hub.now.memory.hub in
    c.loop-index.invariant
    ∙ ap (λ (cs : List Channel). c.args.entries.now.items ++ ports_again 1 cs)
    (all_ports hub.terms.head hub.journal c.loop-index.index (omega (arith, c.loop-index-test.false)))
