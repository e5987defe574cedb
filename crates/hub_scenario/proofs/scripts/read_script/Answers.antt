use Rattle.std.proofs.Common.{rules, arith, ◌≡◌, ◌∙◌, ◌+◌, ◌∷◌, ◌++◌, [], Ok, drop, ap, sym, append-nil}
use Rattle.std.proofs.lemmas.List.{drop_all}
use Rattle.toml.specs.View.{view, items_view}
use Rattle.hub_scenario.specs.Scripts.{script_from}
use Rattle.hub_scenario.proofs.Lists.{onto, cut_at, step-within, step-past, step-more, step-refused}
use Rattle.hub_scenario.proofs.scripts.read_script.Goals as goal

pub loop-value-preserved : goal.loop-value-preserved
loop-value-preserved c =
    let i = c.loop-value.step in
    let k = c.loop-value.value-index in
    let done = c.loop-value.script.items in
    let all = c.args.steps.now.items in
    let v = c.value-item.result in
    let rest = items_view (drop (k + 1) all) in
    let pushed : c.push.new.list.items ≡ done ++ c.in-Some.read ∷ [] = search rules in
    let cut = cut_at all c.deref-value-items.result.now k v c.deref-value-items.ensures.value c.loop-value-test.true c.value-item.is in
    let said = step-within c.args.edition i (view v) (omega arith) ∙ sym c.step_in.ensures ∙ c.in-Some.is in
    record {
      same = c.loop-value.invariant.same ∙ step-more c.args.edition c.args.process i done (items_view (drop k all)) (view v) rest c.in-Some.read cut said
          ∙ ap (λ xs. onto xs (script_from c.args.edition c.args.process (i + 1) rest)) (sym pushed);
      count = search rules;
      few = omega arith;
    }

pub returns-then-step-ge-MOST_SCRIPT_STEPS-clause-fault : goal.returns-then-step-ge-MOST_SCRIPT_STEPS-clause-fault
returns-then-step-ge-MOST_SCRIPT_STEPS-clause-fault c _ =
    let i = c.loop-value.step in
    let k = c.loop-value.value-index in
    let all = c.args.steps.now.items in
    let v = c.value-item.result in
    let cut = cut_at all c.deref-value-items.result.now k v c.deref-value-items.ensures.value c.loop-value-test.true c.value-item.is in
    c.loop-value.invariant.same ∙ step-refused c.args.edition c.args.process i c.loop-value.script.items (items_view (drop k all)) (view v)
    (items_view (drop (k + 1) all))
    cut (step-past c.args.edition i (view v) (omega arith))

pub returns-in_default-clause-fault : goal.returns-in_default-clause-fault
returns-in_default-clause-fault c _ =
    let i = c.loop-value.step in
    let k = c.loop-value.value-index in
    let all = c.args.steps.now.items in
    let v = c.value-item.result in
    let cut = cut_at all c.deref-value-items.result.now k v c.deref-value-items.ensures.value c.loop-value-test.true c.value-item.is in
    let said = step-within c.args.edition i (view v) (omega arith) ∙ sym c.step_in.ensures ∙ c.in_default.is in
    c.loop-value.invariant.same ∙ step-refused c.args.edition c.args.process i c.loop-value.script.items (items_view (drop k all)) (view v)
    (items_view (drop (k + 1) all))
    cut said

pub returns-clause-ok : goal.returns-clause-ok
returns-clause-ok c =
    let none = drop_all c.loop-value.value-index c.args.steps.now.items (search (rules, arith)) in
    c.loop-value.invariant.same ∙ ap (λ rest. onto c.loop-value.script.items
    (script_from c.args.edition c.args.process c.loop-value.step (items_view rest))) none
    ∙ ap Ok (append-nil c.loop-value.script.items)
