-- Where the journal of a run begins: with the makes of the scenario's ports.
use Rattle.std.specs.Prelude.{List, map}
use mathlib.Core.List.{IsPrefix}
use Rattle.hub_base.specs.Entry.{Entry}
use Rattle.hub_base.specs.declared.entry.Step.TheVariants.{Make}
use Rattle.hub_base.specs.Lines.{by}
use Rattle.hub_scenario.specs.Scenario.{ScenarioData}

-- process 0 makes the ports
abbrev pub makes_of : ScenarioData → List Entry
makes_of s = map (λ cap. by 0 (Make cap)) s.ports

-- in the journal the ports are made first, before anything else
abbrev pub BeginsWithPorts : ScenarioData → List Entry → Type 0
BeginsWithPorts s journal = IsPrefix (makes_of s) journal
