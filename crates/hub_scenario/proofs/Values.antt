-- The tests of a frame's values, as far as they come.
use Rattle.std.proofs.Common.{◌≡◌, ◌∙◌, ◌≤◌, ℕ, List, length, map, Some, None, Result, Ok, Err, Bor, refl, ap, sym, arith}
use Rattle.std.specs.Prelude.{Vec}
use Rattle.std.specs.declared.alloc.Global.{Global}
use Rattle.std.proofs.lemmas.Bool.Decides.{nat_tests}
use Rattle.toml.specs.Data.{Items}
use Rattle.toml.specs.declared.value.Value.{Value}
use Rattle.hub_base.specs.declared.head.Edition.{Edition}
use Rattle.hub_base.specs.declared.limits.TheConstants.{MOST_PROCS, MOST_STEPS}
use Rattle.hub_scenario.specs.declared.limits.TheConstants.{GREATEST_SEED}
use Rattle.hub_scenario.specs.declared.fault.ScenarioFault.{ScenarioFault}
use Rattle.hub_scenario.specs.declared.fault.ScenarioFault.TheVariants.{BadSeed, BadLimit, BadJournal, BadPorts}
use Rattle.hub_scenario.specs.declared.script.ScriptStep.{ScriptStep}
use Rattle.hub_scenario.specs.Faults.{must}
use Rattle.hub_scenario.specs.Frames.{FrameData}
use Rattle.hub_scenario.specs.FrameView.{seen}
use Rattle.hub_scenario.specs.Numbers.{within, edition_of, ports_of}
use Rattle.hub_scenario.specs.Scenario.{scripts_of, values_of}
use Rattle.hub_scenario.specs.Scripts.{scripts_from}

pub scripts-within : (ed : Edition) (dss : List Items) → 1 ≤ length dss → length dss ≤ MOST_PROCS → scripts_of ed dss ≡ scripts_from ed 0 dss
scripts-within ed dss some few = grind (arith, nat_tests)

-- what the scripts of a lent slice say is what those of the frame say
pub scripts-say : (ed : Edition) (process slice : List (Bor (Vec Value Global))) (r : Result (List (List ScriptStep)) ScenarioFault) → slice ≡ process
    → scripts_of ed (map seen slice) ≡ r → scripts_of ed (map seen process) ≡ r
scripts-say ed process slice r same says = ap (λ xs. scripts_of ed (map seen xs)) (sym same) ∙ says

pub seed-bad : (f : FrameData) → within 0 GREATEST_SEED f.seed ≡ None → values_of f ≡ Err BadSeed
seed-bad f e = rw e refl

pub limit-bad : (f : FrameData) (seed : ℕ) → within 0 GREATEST_SEED f.seed ≡ Some seed → within 1 MOST_STEPS f.limit ≡ None → values_of f ≡ Err BadLimit
limit-bad f seed e₁ e₂ = rw (e₁, e₂) refl

pub journal-bad : (f : FrameData) (seed limit : ℕ) → within 0 GREATEST_SEED f.seed ≡ Some seed → within 1 MOST_STEPS f.limit ≡ Some limit
    → edition_of f.journal ≡ None → values_of f ≡ Err BadJournal
journal-bad f seed limit e₁ e₂ e₃ = rw (e₁, e₂, e₃) refl

pub ports-bad : (f : FrameData) (seed limit : ℕ) (edition : Edition) (e : ScenarioFault) → within 0 GREATEST_SEED f.seed ≡ Some seed
    → within 1 MOST_STEPS f.limit ≡ Some limit → edition_of f.journal ≡ Some edition → must BadPorts (ports_of f.ports) ≡ Err e → values_of f ≡ Err e
ports-bad f seed limit edition e e₁ e₂ e₃ e₄ = rw (e₁, e₂, e₃, e₄) refl

pub scripts-bad : (f : FrameData) (seed limit : ℕ) (edition : Edition) (ports : List ℕ) (e : ScenarioFault) → within 0 GREATEST_SEED f.seed ≡ Some seed
    → within 1 MOST_STEPS f.limit ≡ Some limit → edition_of f.journal ≡ Some edition → must BadPorts (ports_of f.ports) ≡ Ok ports
    → scripts_of edition f.process ≡ Err e → values_of f ≡ Err e
scripts-bad f seed limit edition ports e e₁ e₂ e₃ e₄ e₅ = rw (e₁, e₂, e₃, e₄, e₅) refl

pub values-good : (f : FrameData) (seed limit : ℕ) (edition : Edition) (ports : List ℕ) (scripts : List (List ScriptStep))
    → within 0 GREATEST_SEED f.seed ≡ Some seed → within 1 MOST_STEPS f.limit ≡ Some limit → edition_of f.journal ≡ Some edition
    → must BadPorts (ports_of f.ports) ≡ Ok ports → scripts_of edition f.process ≡ Ok scripts
    → values_of f ≡ Ok (record { seed = seed; limit = limit; edition = edition; ports = ports; scripts = scripts })
values-good f seed limit edition ports scripts e₁ e₂ e₃ e₄ e₅ = rw (e₁, e₂, e₃, e₄, e₅) refl
