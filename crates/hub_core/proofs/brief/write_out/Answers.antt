use Rattle.std.proofs.Common.{◌≡◌, ◌∙◌, ◌-◌, ℕ, sym, refl, ap, arith, length, drop, take}
use Rattle.std.proofs.lemmas.List.{drop-drop, length-drop}
use Rattle.hub_core.specs.declared.brief.Brief.{Brief}
use Rattle.hub_core.specs.declared.brief.Brief.TheVariants.{Send}
use Rattle.hub_core.proofs.Logs.{all_whole, next_left, one_out}
use Rattle.hub_core.proofs.brief.write_out.Goals as goal

abbrev blank : Brief
blank = Send (record { 0 = 0 }) (record { 0 = 0 }) 0

pub loop-brief-init : goal.loop-brief-init
loop-brief-init c = record { briefs = c.requires.briefs; items = refl; within = omega arith; room = c.requires.room; capacity = refl }

pub entry-requires : goal.entry-requires
entry-requires c =
    let cs = c.args.cases.now.items in
    let i = c.loop-brief.invariant in
    let here = next_left c.args.briefs.now (drop c.loop-brief.at cs) c.loop-brief.brief-index blank c.loop-brief-test.true i.briefs in
    record { there = omega (arith, i.within, here.within, length-drop c.loop-brief.at cs); few = here.few }

pub push_reserved-requires : goal.push_reserved-requires
push_reserved-requires c =
    let i = c.loop-brief.invariant in
    let here = next_left c.args.briefs.now (drop c.loop-brief.at c.args.cases.now.items) c.loop-brief.brief-index blank c.loop-brief-test.true i.briefs in
    omega (arith, i.room, here.one)

pub overflow_add-at : goal.overflow_add-at
overflow_add-at c =
    let cs = c.args.cases.now.items in
    let i = c.loop-brief.invariant in
    let here = next_left c.args.briefs.now (drop c.loop-brief.at cs) c.loop-brief.brief-index blank c.loop-brief-test.true i.briefs in
    omega (arith, i.within, here.within, length-drop c.loop-brief.at cs, c.count-at.ensures, c.len-all.ensures, c.len-all.type_inv)

pub loop-brief-preserved : goal.loop-brief-preserved
loop-brief-preserved c =
    let cs = c.args.cases.now.items in
    let at = c.loop-brief.at in
    let i = c.loop-brief.invariant in
    let here = next_left c.args.briefs.now (drop at cs) c.loop-brief.brief-index blank c.loop-brief-test.true i.briefs in
    let own = ap (λ (n : ℕ). take n (drop at cs)) (sym c.count-at.ensures) in
    let next = one_out c.loop-brief.whole.items here c.count-at.ensures own (sym (drop-drop c.count-at.result at cs))
    c.entry.ensures c.push_reserved.ensures.items i.items in
    record {
      briefs = next.0;
      items = next.1;
      within = omega (arith, i.within, here.within, length-drop at cs, c.count-at.ensures);
      room = omega (arith, i.room, here.one, c.push_reserved.ensures.len, c.push_reserved.ensures.capacity);
      capacity = c.push_reserved.ensures.capacity ∙ i.capacity;
    }

pub returns-clause-items : goal.returns-clause-items
returns-clause-items c =
    let i = c.loop-brief.invariant in
    let past : length c.args.briefs.now - c.loop-brief.brief-index ≡ 0 = omega (arith, c.loop-brief-test.false) in
    let none : length (drop c.loop-brief.brief-index c.args.briefs.now) ≡ 0 = length-drop c.loop-brief.brief-index c.args.briefs.now ∙ past in
    sym (all_whole c.loop-brief.whole.items (drop c.loop-brief.brief-index c.args.briefs.now) (drop c.loop-brief.at c.args.cases.now.items) none) ∙ i.items
