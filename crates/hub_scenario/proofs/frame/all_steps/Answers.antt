use Rattle.std.proofs.Common.{rules, arith, refl, ◌≡◌, ◌∙◌, ◌+◌, ◌∷◌, ◌++◌, [], Some, Err, drop, map, ap, sym, append-nil}
use Rattle.std.specs.Option.{option_map}
use Rattle.std.proofs.lemmas.List.{drop_all, map-append}
use Rattle.toml.specs.View.{array_view, items_view}
use Rattle.hub_scenario.specs.declared.fault.ScenarioFault.TheVariants.{BadKey}
use Rattle.hub_scenario.specs.Faults.{must}
use Rattle.hub_scenario.specs.Frames.{steps_of, all_steps}
use Rattle.hub_scenario.specs.FrameView.{seen}
use Rattle.hub_scenario.proofs.Lists.{more-at, nothing-at}
use Rattle.hub_scenario.proofs.frame.all_steps.Goals as goal

pub loop-value-preserved : goal.loop-value-preserved
loop-value-preserved c =
    let done = c.loop-value.all.items in
    let a = c.in_ok-ok_or.field-0 in
    let pushed : c.push.new.list.items ≡ done ++ a ∷ [] = search rules in
    c.loop-value.invariant
    ∙ more-at steps_of all_steps (λ _ _. refl) (map seen done) (seen a) c.args.process.now.items _ _ _ c.deref-value-items.ensures.value
    c.loop-value-test.true c.value-item.is (sym c.steps_of.ensures ∙ ap (option_map seen) c.in_ok-ok_or.ensures.ok_part)
    ∙ ap (λ xs. option_map (λ r. xs ++ r) (all_steps (items_view (drop (c.loop-value.value-index + 1) c.args.process.now.items))))
    (sym (map-append seen done (a ∷ [])) ∙ ap (map seen) (sym pushed))

pub returns-in_err-ok_or-clause-fault : goal.returns-in_err-ok_or-clause-fault
returns-in_err-ok_or-clause-fault c =
    let e = c.in_err-ok_or.field-0.0 in
    let is : e ≡ BadKey = search rules in
    let said : must BadKey (all_steps (array_view c.args.process.now)) ≡ Err e = ap (must BadKey) (c.loop-value.invariant
    ∙ nothing-at steps_of all_steps (λ _ _. refl) _ _ _ _ _ c.deref-value-items.ensures.value c.loop-value-test.true c.value-item.is
    (sym c.steps_of.ensures ∙ ap (option_map seen) c.in_err-ok_or.ensures.ok_part)) ∙ ap Err (sym is) in
    search (rules, said)

pub returns-clause-ok : goal.returns-clause-ok
returns-clause-ok c =
    let none = drop_all c.loop-value.value-index c.args.process.now.items (search (rules, arith)) in
    ap (must BadKey) (c.loop-value.invariant ∙ ap (λ rest. option_map (λ r. map seen c.loop-value.all.items ++ r) (all_steps (items_view rest))) none
    ∙ ap Some (append-nil (map seen c.loop-value.all.items)))
