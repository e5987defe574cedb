use Rattle.chanhub_tool.proofs.Written.{begun, nothing, whole}
use Rattle.chanhub_tool.proofs.explanation.write_form.Goals as goal

pub returns-in-Text-clause-beginning : goal.returns-in-Text-clause-beginning
returns-in-Text-clause-beginning g c = rw c.in-Text.is (begun _ _ _ _ c.write_story.ensures.beginning)

pub returns-in_err-story-in-Picture-clause-beginning : goal.returns-in_err-story-in-Picture-clause-beginning
returns-in_err-story-in-Picture-clause-beginning g c = nothing _ _ c.args.form c.args.window c.args.journal.now

pub returns-in_err-drawing-in-Picture-clause-beginning : goal.returns-in_err-drawing-in-Picture-clause-beginning
returns-in_err-drawing-in-Picture-clause-beginning g c = nothing _ _ c.args.form c.args.window c.args.journal.now

pub returns-in-Page-clause-beginning : goal.returns-in-Page-clause-beginning
returns-in-Page-clause-beginning g c = rw c.in-Page.is (begun _ _ _ _ c.write_page.ensures.beginning)

pub returns-in-Page-clause-whole : goal.returns-in-Page-clause-whole
returns-in-Page-clause-whole g c = rw c.in-Page.is (whole _ _ _ _ c.write_page.ensures.whole)
