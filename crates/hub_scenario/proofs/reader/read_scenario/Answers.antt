use Rattle.std.proofs.Common.{rules, ◌≡◌, ◌∙◌, Err}
use Rattle.toml.specs.View.{table_view}
use Rattle.hub_scenario.specs.declared.fault.ScenarioFault.TheVariants.{NoMemory}
use Rattle.hub_scenario.specs.FrameView.{frame_view}
use Rattle.hub_scenario.specs.Scenario.{reading}
use Rattle.hub_scenario.proofs.Reading.{no-tree, by-tree, no-frame, by-both}
use Rattle.hub_scenario.proofs.reader.read_scenario.Goals as goal

pub returns-in_err-table-clause-fault : goal.returns-in_err-table-clause-fault
returns-in_err-table-clause-fault c =
    let e = c.in_err-table.field-0.0 in
    let said : ¬ (e ≡ NoMemory) → reading c.args.bytes.now ≡ Err e =
    λ own. no-tree c.args.bytes.now e c.if-bytes-gt-MOST_FILE_BYTES.false (c.in_err-table.ensures.fault own) in
    search (rules, said)

pub returns-in_err-frame-clause-fault : goal.returns-in_err-frame-clause-fault
returns-in_err-frame-clause-fault c =
    let e = c.in_err-frame.field-0.0 in
    let ms = table_view c.in_ok-table.table in
    let said : ¬ (e ≡ NoMemory) → reading c.args.bytes.now ≡ Err e =
    λ own. by-tree c.args.bytes.now ms c.if-bytes-gt-MOST_FILE_BYTES.false c.in_ok-table.ensures.ok
    ∙ no-frame ms e (c.in_err-frame.ensures.fault own) in
    search (rules, said)

pub returns-clause-ok : goal.returns-clause-ok
returns-clause-ok c =
    rw (by-both c.args.bytes.now (table_view c.in_ok-table.table)
    (frame_view c.in_ok-frame.frame) c.if-bytes-gt-MOST_FILE_BYTES.false c.in_ok-table.ensures.ok c.in_ok-frame.ensures.ok)
    c.values_of.ensures.ok

pub returns-clause-fault : goal.returns-clause-fault
returns-clause-fault c =
    rw (by-both c.args.bytes.now (table_view c.in_ok-table.table)
    (frame_view c.in_ok-frame.frame) c.if-bytes-gt-MOST_FILE_BYTES.false c.in_ok-table.ensures.ok c.in_ok-frame.ensures.ok)
    c.values_of.ensures.fault
