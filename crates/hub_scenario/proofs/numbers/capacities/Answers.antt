use Rattle.std.proofs.Common.{rules, arith, refl, ◌≡◌, ◌∙◌, ◌+◌, ◌∷◌, ◌++◌, ◌≤◌, [], Some, Err, drop, length, ap, sym, subst, append-nil}
use Rattle.std.specs.Option.{option_map}
use Rattle.std.specs.List.{All}
use Rattle.std.proofs.lemmas.List.{drop_all, length_push}
use Rattle.std.proofs.lemmas.List.Elements.{All-push}
use Rattle.toml.specs.View.{array_view, items_view}
use Rattle.hub_base.specs.declared.limits.TheConstants.{MOST_CAP}
use Rattle.hub_scenario.specs.declared.fault.ScenarioFault.TheVariants.{BadPorts}
use Rattle.hub_scenario.specs.Faults.{must}
use Rattle.hub_scenario.specs.Numbers.{capacity_of, capacities_of}
use Rattle.hub_scenario.proofs.Lists.{more-at, nothing-at}
use Rattle.hub_scenario.proofs.numbers.capacities.Goals as goal

pub loop-value-preserved : goal.loop-value-preserved
loop-value-preserved c =
    let so = c.loop-value.invariant in
    let done = c.loop-value.all.items in
    let n = c.in_ok-ok_or.field-0 in
    let pushed : c.push.new.list.items ≡ done ++ n ∷ [] = search rules in
    record {
      same = so.same
          ∙ more-at capacity_of capacities_of (λ _ _. refl) done n c.args.array.now.items _ _ _ c.deref-value-items.ensures.value
          c.loop-value-test.true c.value-item.is (sym c.capacity.ensures.value ∙ c.in_ok-ok_or.ensures.ok_part)
          ∙ ap (λ xs. option_map (λ r. xs ++ r) (capacities_of (items_view (drop (c.loop-value.value-index + 1) c.args.array.now.items)))) (sym pushed);
      count = omega (arith, so.count, ap length pushed, length_push done n);
      each = subst (All (λ c. c ≤ MOST_CAP)) (sym pushed) (All-push (λ c. c ≤ MOST_CAP) done n so.each (search rules));
    }

pub returns-in_err-ok_or-clause-fault : goal.returns-in_err-ok_or-clause-fault
returns-in_err-ok_or-clause-fault c =
    let e = c.in_err-ok_or.field-0.0 in
    let is : e ≡ BadPorts = search rules in
    let said : must BadPorts (capacities_of (array_view c.args.array.now)) ≡ Err e = ap (must BadPorts) (c.loop-value.invariant.same
    ∙ nothing-at capacity_of capacities_of (λ _ _. refl) _ _ _ _ _ c.deref-value-items.ensures.value c.loop-value-test.true c.value-item.is
    (sym c.capacity.ensures.value ∙ c.in_err-ok_or.ensures.ok_part)) ∙ ap Err (sym is) in
    search (rules, said)

pub returns-clause-ok : goal.returns-clause-ok
returns-clause-ok c =
    let none = drop_all c.loop-value.value-index c.args.array.now.items (search (rules, arith)) in
    ap (must BadPorts) (c.loop-value.invariant.same
    ∙ ap (λ rest. option_map (λ r. c.loop-value.all.items ++ r) (capacities_of (items_view rest))) none
    ∙ ap Some (append-nil c.loop-value.all.items))
