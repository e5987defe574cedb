use Rattle.std.proofs.Common.{rules, ◌≡◌, ◌∙◌, ◌+◌, ◌≤◌, ◌∷◌, ◌++◌, [], Ok, Err, drop, map, vec_items, vec_len, ap, sym, subst, append-nil}
use Rattle.std.specs.List.{All}
use Rattle.std.proofs.lemmas.List.{map-append, drop_all, drop_more}
use Rattle.std.proofs.lemmas.List.Elements.{All-push}
use Rattle.hub_scenario.specs.declared.limits.TheConstants.{MOST_SCRIPT_STEPS}
use Rattle.hub_scenario.specs.declared.fault.ScenarioFault.TheVariants.{NoMemory}
use Rattle.hub_scenario.specs.FrameView.{seen}
use Rattle.hub_scenario.specs.Scripts.{scripts_from}
use Rattle.hub_scenario.proofs.Editions.{scripts-are-of}
use Rattle.hub_scenario.proofs.Lists.{onto, script-more, script-refused}
use Rattle.hub_scenario.proofs.scripts.scripts_from.Goals as goal

pub loop-steps-preserved : goal.loop-steps-preserved
loop-steps-preserved c =
    let i = c.loop-steps.steps-index in
    let p = c.loop-steps.process in
    let done = c.loop-steps.scripts.items in
    let all = c.args.processes.now in
    let script = c.in_ok-script.script in
    let rest = map seen (drop (i + 1) all) in
    let pushed : c.push.new.list.items ≡ done ++ script ∷ [] = search rules in
    let cut : drop i all ≡ c.steps-item.result ∷ drop (i + 1) all =
    drop_more all i c.steps-item.result c.loop-steps-test.true ∙ ap (λ x. x ∷ drop (i + 1) all) (sym c.steps-item.is) in
    record {
      same = c.loop-steps.invariant.same
          ∙ script-more c.args.edition p (map vec_items done) (map seen (drop i all)) (seen c.steps-item.result) rest script.items
          (ap (map seen) cut) c.in_ok-script.ensures.ok
          ∙ ap (λ xs. onto xs (scripts_from c.args.edition (p + 1) rest)) (sym (map-append vec_items done (script ∷ [])))
          ∙ ap (λ xs. onto (map vec_items xs) (scripts_from c.args.edition (p + 1) rest)) (sym pushed);
      place = ap (λ n. n + 1) c.loop-steps.invariant.place;
      count = search rules;
      few = subst (All (λ s. vec_len s ≤ MOST_SCRIPT_STEPS)) (sym pushed)
          (All-push (λ s. vec_len s ≤ MOST_SCRIPT_STEPS) done script c.loop-steps.invariant.few c.in_ok-script.ensures.few);
    }

pub returns-in_err-script-clause-fault : goal.returns-in_err-script-clause-fault
returns-in_err-script-clause-fault c =
    let i = c.loop-steps.steps-index in
    let p = c.loop-steps.process in
    let all = c.args.processes.now in
    let e = c.in_err-script.field-0.0 in
    let cut : drop i all ≡ c.steps-item.result ∷ drop (i + 1) all =
    drop_more all i c.steps-item.result c.loop-steps-test.true ∙ ap (λ x. x ∷ drop (i + 1) all) (sym c.steps-item.is) in
    let said : ¬ (e ≡ NoMemory) → scripts_from c.args.edition 0 (map seen all) ≡ Err e = λ own. c.loop-steps.invariant.same
    ∙ script-refused c.args.edition p (map vec_items c.loop-steps.scripts.items) (map seen (drop i all)) (seen c.steps-item.result)
    (map seen (drop (i + 1) all)) e (ap (map seen) cut) (c.in_err-script.ensures.fault own) in
    search (rules, said)

pub returns-clause-ok : goal.returns-clause-ok
returns-clause-ok c =
    let none = drop_all c.loop-steps.steps-index c.args.processes.now c.loop-steps-test.false in
    c.loop-steps.invariant.same ∙ ap (λ rest. onto (map vec_items c.loop-steps.scripts.items)
    (scripts_from c.args.edition c.loop-steps.process (map seen rest))) none
    ∙ ap Ok (append-nil (map vec_items c.loop-steps.scripts.items))

pub returns-clause-of_edition : goal.returns-clause-of_edition
returns-clause-of_edition c =
    scripts-are-of c.args.edition 0 (map seen c.args.processes.now) (map vec_items c.loop-steps.scripts.items) (returns-clause-ok c)

pub returns-clause-short : goal.returns-clause-short
returns-clause-short c = c.loop-steps.invariant.few
