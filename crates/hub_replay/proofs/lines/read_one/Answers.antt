use Rattle.std.proofs.Common.{◌∙◌, sym, subst, Bool, Ok}
use Rattle.hub_text.specs.Reader.{FillsOn}
use Rattle.hub_replay.proofs.EntryLines.{read-on, some-said, fault-said}
use Rattle.hub_replay.proofs.lines.read_one.Goals as goal

pub returns-in-Ok-true : goal.returns-in-Ok-true
returns-in-Ok-true c = λ head body said.
    read-on head body c.read_into.new.place c.read_into.new.self.left c.read_out.result (sym said
    ∙ (subst (λ (b : Bool). FillsOn c.args.reader c.read_into.new.self c.read_into.new.place (Ok b)) c.in-Ok-true.field-0-test
    c.in-Ok-true.ensures.reads).0)
    c.read_out.ensures.ok c.read_out.ensures.err

pub returns-in-Ok-false : goal.returns-in-Ok-false
returns-in-Ok-false c = λ head body said. absurd (some-said head _ _ (sym said
    ∙ (subst (λ (b : Bool). FillsOn c.args.reader c.read_into.new.self c.read_into.new.place (Ok b)) c.in-Ok-false.field-0-test
    c.in-Ok-false.ensures.reads).0))

pub returns-in-Err : goal.returns-in-Err
returns-in-Err c = λ head body said. fault-said head _ _ _ (sym said ∙ c.in-Err.ensures.reads.fault)
