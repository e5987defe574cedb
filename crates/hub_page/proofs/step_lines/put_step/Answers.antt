use Rattle.std.proofs.Common.{◌∙◌}
use Rattle.std.proofs.lemmas.Result.{on_ok_weaker}
use Rattle.hub_page.proofs.Blocks.{block-next}
use Rattle.hub_page.proofs.step_lines.put_step.Goals as goal

pub returns-clause-block : goal.returns-clause-block
returns-clause-block c =
    on_ok_weaker c.put_line.result (λ put. block-next _ _ _ (record {
      known = c.requires.known;
      within = c.requires.within;
      entry = c.requires.entry;
      end = c.requires.end;
      came = c.came.ensures ∙ c.requires.came;
      past = c.requires.past;
    }) c.requires.block c.in_ok-note_step.ensures.next) c.put_line.ensures
