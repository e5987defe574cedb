use Rattle.std.proofs.Common.{◌+◌, arith, subst, sym, take}
use Rattle.std.specs.Prelude.{List}
use Rattle.hub_base.specs.State.{Channel}
use Rattle.hub_base.specs.declared.limits.TheConstants.{MOST_PORTS}
use Rattle.hub_core.specs.HubView.{state_of}
use Rattle.hub_chapters.specs.Checkpoint.{ports_again}
use Rattle.hub_cut.specs.Cut.{CanMake, Makes}
use Rattle.hub_cut.specs.Written.{port_entries}
use Rattle.hub_cut.proofs.Parts.{all_ports, ports_more}
use Rattle.hub_cut.proofs.Renewing.{can_grow, made_more}
use Rattle.hub_cut.proofs.making.make_ports.Goals as goal

pub make_port-requires : goal.make_port-requires
make_port-requires c =
    let hub = c.args.hub.now.memory.hub in
    let base = c.args.next.now.memory.hub in
    let s = state_of hub in
    let can : CanMake base (ports_again 1 (take MOST_PORTS s.channels)) =
    subst (λ (cs : List Channel). CanMake base (ports_again 1 cs)) (sym (all_ports hub.terms.head hub.journal MOST_PORTS (omega arith))) c.requires.can in
    record {
      can = can_grow base c.loop-index.next.memory.hub (λ n. ports_again 1 (take n s.channels)) (λ n. port_entries s (record { 0 = n + 1 }))
          (λ n. ports_more n s) c.loop-index.index MOST_PORTS (omega (arith, c.loop-index-test.true)) can c.loop-index.invariant;
    }

pub loop-index-preserved : goal.loop-index-preserved
loop-index-preserved c =
    let s = state_of c.args.hub.now.memory.hub in
    made_more c.args.next.now.memory.hub c.loop-index.next.memory.hub c.make_port.new.next.memory.hub (λ n. ports_again 1 (take n s.channels))
    (λ n. port_entries s (record { 0 = n + 1 })) (λ n. ports_more n s) c.loop-index.index c.loop-index.invariant c.in_ok-make_port.ensures

pub returns : goal.returns
returns c =
    let hub = c.args.hub.now.memory.hub in
    subst (λ (cs : List Channel). Makes c.args.next.now.memory.hub (ports_again 1 cs) c.loop-index.next.memory.hub)
    (all_ports hub.terms.head hub.journal c.loop-index.index (omega (arith, c.loop-index-test.false))) c.loop-index.invariant
