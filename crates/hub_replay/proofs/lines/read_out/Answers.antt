use Rattle.std.proofs.Common.{◌++◌, ◌∷◌, [], ◌∙◌, ap, subst, Bool, Ok}
use Rattle.hub_base.specs.Reading.{behind}
use Rattle.hub_text.specs.Reader.{FillsOn}
use Rattle.hub_replay.proofs.EntryLines.{behind-more}
use Rattle.hub_replay.proofs.lines.read_out.Goals as goal

pub entries-preserved : goal.entries-preserved
entries-preserved c =
    let (more, said) = c.entries.invariant in
    let goes = subst (λ (b : Bool). FillsOn c.entries.reader c.read_into.new.self c.read_into.new.place (Ok b)) c.in-Ok-true.field-0-test
    c.in-Ok-true.ensures.reads in
    (more ++ c.read_into.new.place ∷ [], said ∙ ap (behind more) goes.0 ∙ behind-more more c.read_into.new.place c.read_into.new.self.left)
