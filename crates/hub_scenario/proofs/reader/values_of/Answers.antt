use Rattle.std.proofs.Common.{rules, ◌≡◌, map, vec_items, Err}
use Rattle.hub_scenario.specs.declared.fault.ScenarioFault.TheVariants.{NoMemory}
use Rattle.hub_scenario.specs.FrameView.{frame_view}
use Rattle.hub_scenario.specs.Scenario.{values_of}
use Rattle.hub_scenario.proofs.Values.{scripts-say, seed-bad, limit-bad, journal-bad, ports-bad, scripts-bad, values-good}
use Rattle.hub_scenario.proofs.reader.values_of.Goals as goal

pub returns-in_default-clause-fault : goal.returns-in_default-clause-fault
returns-in_default-clause-fault c _ = seed-bad (frame_view c.args.frame.now) (search rules)

pub returns-in_default-within-clause-fault : goal.returns-in_default-within-clause-fault
returns-in_default-within-clause-fault c _ = limit-bad (frame_view c.args.frame.now) c.in-Some.seed (search rules) (search rules)

pub returns-in_default-edition_of-clause-fault : goal.returns-in_default-edition_of-clause-fault
returns-in_default-edition_of-clause-fault c _ =
    journal-bad (frame_view c.args.frame.now) c.in-Some.seed c.in-Some-within.limit (search rules) (search rules) (search rules)

pub returns-in_err-ports-clause-fault : goal.returns-in_err-ports-clause-fault
returns-in_err-ports-clause-fault c =
    let f = frame_view c.args.frame.now in
    let e = c.in_err-ports.field-0.0 in
    let said : ¬ (e ≡ NoMemory) → values_of f ≡ Err e =
    λ own. ports-bad f c.in-Some.seed c.in-Some-within.limit c.in-Some-edition_of.edition e (search rules) (search rules) (search rules)
    (c.in_err-ports.ensures.fault own) in
    search (rules, said)

pub returns-in_err-scripts-clause-fault : goal.returns-in_err-scripts-clause-fault
returns-in_err-scripts-clause-fault c =
    let f = frame_view c.args.frame.now in
    let e = c.in_err-scripts.field-0.0 in
    let said : ¬ (e ≡ NoMemory) → values_of f ≡ Err e = λ own.
    scripts-bad f c.in-Some.seed c.in-Some-within.limit c.in-Some-edition_of.edition c.in_ok-ports.ports.items e (search rules) (search rules) (search rules)
    c.in_ok-ports.ensures.ok
    (scripts-say c.in-Some-edition_of.edition c.args.frame.now.process.items c.as_slice.result.now (Err e) c.as_slice.ensures.value
    (c.in_err-scripts.ensures.fault own)) in
    search (rules, said)

pub returns-clause-ok : goal.returns-clause-ok
returns-clause-ok c =
    values-good (frame_view c.args.frame.now) c.in-Some.seed c.in-Some-within.limit c.in-Some-edition_of.edition c.in_ok-ports.ports.items
    (map vec_items c.in_ok-scripts.scripts.items) (search rules) (search rules) (search rules) c.in_ok-ports.ensures.ok
    (scripts-say c.in-Some-edition_of.edition c.args.frame.now.process.items c.as_slice.result.now _ c.as_slice.ensures.value
    c.in_ok-scripts.ensures.ok)
