use Rattle.std.proofs.Common.{◌∙◌, ap, sym, ◌++◌, [], ◌∷◌, append_assoc, arith}
use Rattle.hub_base.specs.Lines.{line}
use Rattle.hub_base.proofs.Editions.{three-has}
use Rattle.hub_story_text.specs.LineText.{asks}
use Rattle.hub_story_text.proofs.StepLines.{without-newline}
use Rattle.hub_story_text.proofs.lines.put_asks.Goals as goal

pub write_entry-requires : goal.write_entry-requires
write_entry-requires c = record { fits = three-has c.args.entry.now.step }

pub returns : goal.returns
returns c =
    c.truncate.ensures.items
    ∙ without-newline c.write_entry.new.out.items (c.args.out.now.items ++ asks c.args.entry.now) c.len.result
    (omega (arith, c.len.ensures, c.write_entry.new.out.ok))
    (c.in_ok-write_entry.ensures.ok ∙ ap (λ l. l ++ line c.args.entry.now) c.in_ok-extend_from_slice.ensures.items
    ∙ append_assoc c.args.out.now.items (80 ∷ []) (line c.args.entry.now)
    ∙ sym (append_assoc c.args.out.now.items (asks c.args.entry.now) (10 ∷ [])))
