use Rattle.std.proofs.Common.{◌≡◌, ◌≤◌, ◌+◌, ◌++◌, ap, arith, length, map, List}
use Rattle.hub_base.specs.Entry.{Entry}
use Rattle.hub_base.specs.Notation.{exit}
use Rattle.hub_base.specs.State.{State}
use Rattle.hub_base.specs.Text.{steps_of}
use Rattle.hub_chapters.specs.Checkpoint.{call_again, checkpoint, exited, ports_again}
use Rattle.hub_base.specs.Head.{AreOf}
use Rattle.hub_laws.specs.Journals.{IsLegal}
use Rattle.hub_core.specs.HubView.{HubView, opened_hub, state_of}
use Rattle.hub_cut.specs.Cut.{CanMake, Makes}
use Rattle.hub_cut.proofs.Parts.{checkpoint_within}
use Rattle.hub_cut.proofs.Renewing.{can_anew, can_first, can_then, checkpoint_count, longer, made_both}
use Rattle.hub_cut.proofs.making.make_checkpoint.Goals as goal

abbrev ports : State → List Entry
ports s = ports_again 1 s.channels

abbrev exits : State → List Entry
exits s = map exit (exited s)

abbrev calls : State → List Entry
calls s = map call_again s.parked

-- each part can be made behind those before it
parts : (hub base : HubView) → base ≡ opened_hub hub.terms → AreOf hub.terms.head.edition hub.journal → IsLegal hub.terms.head hub.journal
    → steps_of hub.journal ≤ hub.terms.limit → (let s : State = state_of hub in CanMake base (ports s)
    × ((now : HubView) → Makes base (ports s) now → CanMake now (exits s)) × ((now : HubView) → Makes base (ports s ++ exits s) now → CanMake now (calls s)))
parts hub base new fits legal few =
    let s = state_of hub in
    let all = can_anew hub base new fits legal few in
    let both = can_first base (ports s ++ exits s) (calls s) all in (
      can_first base (ports s) (exits s) both,
      λ now m. can_then base now (ports s) (exits s) both m,
      λ now m. can_then base now (ports s ++ exits s) (calls s) all m,
    )

pub make_ports-requires : goal.make_ports-requires
make_ports-requires c =
    let legal = c.journal_is_legal.ensures in
    record { can = (parts c.args.hub.now.memory.hub _ c.requires.new legal.fits legal.legal legal.few).0 }

pub make_exits-requires : goal.make_exits-requires
make_exits-requires c =
    let legal = c.journal_is_legal.ensures in
    record { can = (parts c.args.hub.now.memory.hub _ c.requires.new legal.fits legal.legal legal.few).1 _ c.in_ok-make_ports.ensures }

pub make_calls-requires : goal.make_calls-requires
make_calls-requires c =
    let hub = c.args.hub.now.memory.hub in
    let legal = c.journal_is_legal.ensures in
    let made = made_both _ _ _ (ports (state_of hub)) (exits (state_of hub)) c.in_ok-make_ports.ensures c.in_ok-make_exits.ensures in
    record { can = (parts hub _ c.requires.new legal.fits legal.legal legal.few).2 _ made }

-- it has all but the exits
counted : (s : State) (base with_ports with_exits new : HubView) → length base.journal ≡ 0 → Makes base (ports s) with_ports →
    Makes with_ports (exits s) with_exits → Makes with_exits (calls s) new →
    (length with_exits.journal ≡ length with_ports.journal + length (exits s)) × (length new.journal ≡ steps_of (checkpoint s) + length (exits s))
counted s base with_ports with_exits new none a b c = (
  longer with_ports (exits s) with_exits b,
  omega (arith, none, longer base (ports s) with_ports a, longer with_ports (exits s) with_exits b, longer with_exits (calls s) new c, checkpoint_count s),
)

pub overflow_cast-result : goal.overflow_cast-result
overflow_cast-result c =
    let hub = c.args.hub.now.memory.hub in
    let base = c.args.next.now.memory.hub in
    let legal = c.journal_is_legal.ensures in
    let none : length base.journal ≡ 0 = ap (λ (h : HubView). length h.journal) c.requires.new in
    let counts = counted (state_of hub) base c.make_ports.new.next.memory.hub c.make_exits.new.next.memory.hub c.make_calls.new.next.memory.hub none
    c.in_ok-make_ports.ensures c.in_ok-make_exits.ensures c.in_ok-make_calls.ensures in
    let few = checkpoint_within hub legal.legal legal.few in
    omega (arith, c.len-ports.ensures, c.len.ensures, c.len-2.ensures, counts.0, counts.1, few, c.requires.limit.1)

pub returns-clause-made : goal.returns-clause-made
returns-clause-made c =
    let s = state_of c.args.hub.now.memory.hub in
    made_both _ _ _ (ports s ++ exits s) (calls s) (made_both _ _ _ (ports s) (exits s) c.in_ok-make_ports.ensures c.in_ok-make_exits.ensures)
    c.in_ok-make_calls.ensures

pub returns-clause-steps : goal.returns-clause-steps
returns-clause-steps c =
    let base = c.args.next.now.memory.hub in
    let none : length base.journal ≡ 0 = ap (λ (h : HubView). length h.journal) c.requires.new in
    let counts = counted (state_of c.args.hub.now.memory.hub) base c.make_ports.new.next.memory.hub c.make_exits.new.next.memory.hub
    c.make_calls.new.next.memory.hub none c.in_ok-make_ports.ensures c.in_ok-make_exits.ensures c.in_ok-make_calls.ensures in
    omega (arith, c.len-ports.ensures, c.len.ensures, c.len-2.ensures, counts.0, counts.1)
