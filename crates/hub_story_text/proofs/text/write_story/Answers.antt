use Rattle.std.proofs.Common.{◌≡◌, ◌∙◌, OnErr, OnOk, ap, subst}
use Rattle.std.specs.Io.KnownBytes.{Appends}
use Rattle.hub_base.specs.Journal.{JournalView}
use Rattle.hub_replay.specs.Devices.{AppendsBeginning}
use Rattle.hub_story.specs.Told.{told}
use Rattle.hub_story.specs.declared.window.Window.{Window}
use Rattle.hub_story_text.specs.declared.explained.Explained.{Explained}
use Rattle.hub_story_text.specs.declared.paint.Paint.{Paint}
use Rattle.hub_story_text.specs.Explained.{IsExplained, entries_of, head_of, text_of, told_of}
use Rattle.hub_story_text.specs.StoryText.{painted_text, text_with}
use Rattle.hub_story_text.proofs.text.write_story.Goals as goal

-- the whole story is told of the journal's own clock
is-text : (e : Explained) (w : Window) (j : JournalView) (paint : Paint) → IsExplained e → e.journal.now ≡ j → e.paint ≡ paint →
    text_of e w ≡ painted_text paint w j.head j.entries (told j.head j.entries)
is-text e w j paint so is painted =
    ap (λ clock. text_with clock e.paint w (head_of e) (entries_of e) (told_of e)) so.clock
    ∙ ap (λ p. painted_text p w (head_of e) (entries_of e) (told_of e)) painted
    ∙ ap (λ (j : JournalView). painted_text paint w j.head j.entries (told j.head j.entries)) is

pub returns-clause-whole : goal.returns-clause-whole
returns-clause-whole g c =
    let new = c.new-explained.ensures in
    subst (λ l. OnOk c.write_explained.result (Appends (g.W.Sink.contents c.args.output.now) (g.W.Sink.contents c.write_explained.new.output) l))
    (is-text _ c.args.window c.args.journal.now c.args.paint new.explained new.journal new.paint) c.write_explained.ensures.whole

pub returns-clause-beginning : goal.returns-clause-beginning
returns-clause-beginning g c =
    let new = c.new-explained.ensures in
    subst (λ l. OnErr c.write_explained.result (AppendsBeginning (g.W.Sink.contents c.args.output.now) (g.W.Sink.contents c.write_explained.new.output) l))
    (is-text _ c.args.window c.args.journal.now c.args.paint new.explained new.journal new.paint) c.write_explained.ensures.beginning
