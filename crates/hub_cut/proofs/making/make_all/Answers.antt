use Rattle.std.proofs.Common.{◌≡◌, ◌∙◌, ◌+◌, ◌++◌, ◌∷◌, [], ap, arith, subst, sym, suc, take, drop}
use Rattle.std.proofs.lemmas.List.{take_all, take_more}
use Rattle.hub_cut.specs.Cut.{CanMake, Makes}
use Rattle.hub_cut.proofs.Parts.{parts_at}
use Rattle.hub_cut.proofs.Renewing.{can_first, can_then, made_both, made_none}
use Rattle.hub_cut.proofs.making.make_all.Goals as goal

pub make-requires : goal.make-requires
make-requires c =
    let base = c.args.next.now.memory.hub in
    let now = c.loop-entry.next.memory.hub in
    let es = c.args.entries.now in
    let i = c.loop-entry.entry-index in
    let e = c.entry-item.result in
    rw c.by_slice.ensures (record {
      can = can_first now (e ∷ []) (drop (suc i) es)
          (can_then base now (take i es) (e ∷ drop (suc i) es)
          (subst (CanMake base) (parts_at es i e c.loop-entry-test.true c.entry-item.is) c.requires.can) c.loop-entry.invariant);
    })

pub loop-entry-init : goal.loop-entry-init
loop-entry-init c = made_none c.args.next.now.memory.hub

pub loop-entry-preserved : goal.loop-entry-preserved
loop-entry-preserved c =
    let base = c.args.next.now.memory.hub in
    let now = c.loop-entry.next.memory.hub in
    let new = c.make.new.next.memory.hub in
    let es = c.args.entries.now in
    let i = c.loop-entry.entry-index in
    let e = c.entry-item.result in
    let next : take (i + 1) es ≡ take i es ++ e ∷ [] =
    take_more es i e c.loop-entry-test.true ∙ ap (λ x. take i es ++ x ∷ []) (sym c.entry-item.is) in
    subst (λ xs. Makes base xs new) (sym next)
    (made_both base now new (take i es) (e ∷ []) c.loop-entry.invariant (rw c.by_slice.ensures at c.in_ok-make.ensures))

pub returns : goal.returns
returns c =
    let base = c.args.next.now.memory.hub in
    let now = c.loop-entry.next.memory.hub in
    subst (λ xs. Makes base xs now) (take_all c.loop-entry.entry-index c.args.entries.now (omega (arith, c.loop-entry-test.false))) c.loop-entry.invariant
