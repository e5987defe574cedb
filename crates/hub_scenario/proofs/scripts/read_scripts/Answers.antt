use Rattle.std.proofs.Common.{◌≡◌, Result, Ok, List, map, vec_items, IfErr, IfOk, sym, subst, rules, arith}
use Rattle.std.proofs.lemmas.List.{length-map}
use Rattle.hub_scenario.specs.declared.fault.ScenarioFault.{ScenarioFault}
use Rattle.hub_scenario.specs.declared.script.ScriptStep.{ScriptStep}
use Rattle.hub_scenario.specs.Faults.{IsFaultOf}
use Rattle.hub_scenario.specs.FrameView.{seen}
use Rattle.hub_scenario.specs.Scenario.{scripts_of}
use Rattle.hub_scenario.specs.Scripts.{scripts_from}
use Rattle.hub_scenario.proofs.Values.{scripts-within}
use Rattle.hub_scenario.proofs.scripts.read_scripts.Goals as goal
use Rattle.hub_scenario.proofs.scripts.read_scripts.Goals.{After-scripts_from}

same : (c : After-scripts_from) → scripts_from c.args.edition 0 (map seen c.args.processes.now) ≡ scripts_of c.args.edition (map seen c.args.processes.now)
same c = sym (scripts-within c.args.edition (map seen c.args.processes.now) (search (rules, arith, length-map)) (search (rules, arith, length-map)))

pub returns-clause-ok : goal.returns-clause-ok
returns-clause-ok c =
    subst (λ (said : Result (List (List ScriptStep)) ScenarioFault). IfOk c.scripts_from.result (λ v. said ≡ Ok (map vec_items v.items))) (same c)
    c.scripts_from.ensures.ok

pub returns-clause-fault : goal.returns-clause-fault
returns-clause-fault c =
    subst (λ (said : Result (List (List ScriptStep)) ScenarioFault). IfErr c.scripts_from.result (λ e. IsFaultOf said e)) (same c)
    c.scripts_from.ensures.fault
