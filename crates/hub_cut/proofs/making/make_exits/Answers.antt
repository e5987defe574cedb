use Rattle.std.proofs.Common.{◌∷◌, [], ap, arith, cond, filter, map, subst, ℕ}
use Rattle.std.specs.Prelude.{List}
use Rattle.std.specs.List.{range_with_len}
use Rattle.hub_base.specs.declared.head.Head.{Head}
use Rattle.hub_base.specs.Entry.{Entry}
use Rattle.hub_base.specs.Notation.{exit}
use Rattle.hub_base.specs.State.{State}
use Rattle.hub_base.specs.Steps.{has_gone}
use Rattle.hub_core.specs.HubView.{state_of}
use Rattle.hub_cut.specs.Cut.{Makes}
use Rattle.hub_laws.proofs.Lasting.{procs-after}
use Rattle.hub_cut.proofs.Parts.{at_procs, gone_more}
use Rattle.hub_cut.proofs.Renewing.{can_grow, made_more}
use Rattle.hub_cut.proofs.making.make_exits.Goals as goal

-- the exits of those that have gone with a number below n, and the next
abbrev exits_below : State → ℕ → List Entry
exits_below s n = map exit (filter (has_gone s) (range_with_len 0 n))

abbrev exit_at : State → ℕ → List Entry
exit_at s n = map exit (cond (has_gone s n) (n ∷ []) [])

pub make_exit-requires : goal.make_exit-requires
make_exit-requires c =
    let hub = c.args.hub.now.memory.hub in
    let s = state_of hub in
    let n = c.loop-number.number in
    let procs = ap (λ (h : Head). h.procs) c.head-number-end.ensures.value in
    rw c.has_gone.ensures (record {
      can = can_grow c.args.next.now.memory.hub c.loop-number.next.memory.hub (exits_below s) (exit_at s) (gone_more (has_gone s)) n s.head.procs
          (omega (arith, procs, c.loop-number-test.true, c.loop-number.auto.number-end, procs-after hub.terms.head hub.journal)) c.requires.can
          c.loop-number.invariant;
    })

pub loop-number-preserved : goal.loop-number-preserved
loop-number-preserved c =
    let s = state_of c.args.hub.now.memory.hub in
    made_more c.args.next.now.memory.hub c.loop-number.next.memory.hub c.make_exit.new.next.memory.hub (exits_below s) (exit_at s) (gone_more (has_gone s))
    c.loop-number.number c.loop-number.invariant (rw c.has_gone.ensures at c.in_ok-make_exit.ensures)

pub returns : goal.returns
returns c =
    let hub = c.args.hub.now.memory.hub in
    let same = at_procs hub _ _ c.head-number-end.ensures.value c.loop-number-test.false c.loop-number.auto.number-end in
    subst (λ n. Makes c.args.next.now.memory.hub (exits_below (state_of hub) n) c.loop-number.next.memory.hub) same c.loop-number.invariant
