use Rattle.std.proofs.Common.{List, Option, ap, subst, ℕ, ◌++◌, ◌∙◌, ◌≡◌}
use Rattle.std.specs.Io.KnownBytes.{Appends}
use Rattle.hub_base.specs.declared.value.Pid.{Pid}
use Rattle.hub_base.proofs.Results.{on-err}
use Rattle.hub_replay.specs.Devices.{AppendsBeginning}
use Rattle.hub_story_text.specs.StoryText.{end_text, heading}
use Rattle.hub_page.specs.declared.known.Known.{Known}
use Rattle.hub_page.specs.Known.{IsKnown, entries_of, head_of, told_of}
use Rattle.hub_page.specs.KnownPage.{end_of}
use Rattle.hub_page.proofs.Written.{none-begun}
use Rattle.hub_page.proofs.page.write_end.Goals as goal

-- what is put behind the heading
end-put : (k : Known) (start put : List ℕ) → IsKnown k → start ≡ heading →
    put ≡ start ++ end_text k.explained.clock (head_of k) (entries_of k) (told_of k) → put ≡ end_of k
end-put k start put known begins is =
    is ∙ ap (λ l. l ++ end_text k.explained.clock (head_of k) (entries_of k) (told_of k)) begins
    ∙ ap (λ (clock : Option Pid). heading ++ end_text clock (head_of k) (entries_of k) (told_of k)) known.clock

pub returns-in_err-text-clause-beginning : goal.returns-in_err-text-clause-beginning
returns-in_err-text-clause-beginning g c = on-err c.from_residual.result (none-begun _ (end_of c.args.known.now))

pub returns-in_err-put_end-clause-beginning : goal.returns-in_err-put_end-clause-beginning
returns-in_err-put_end-clause-beginning g c = on-err c.from_residual-in_err-put_end.result (none-begun _ (end_of c.args.known.now))

pub returns-in_err-write_whole-clause-beginning : goal.returns-in_err-write_whole-clause-beginning
returns-in_err-write_whole-clause-beginning g c =
    on-err c.from_residual-in_err-write_whole.result
    (subst (λ l. AppendsBeginning (g.W.Sink.contents c.args.output.now) (g.W.Sink.contents c.write_whole.new.sink) l)
    (c.deref.ensures.value ∙ end-put c.args.known.now _ _ c.requires.known c.in_ok-text.ensures.items c.in_ok-put_end.ensures)
    c.in_err-write_whole.ensures.beginning)

pub returns-clause-whole : goal.returns-clause-whole
returns-clause-whole g c =
    subst (λ l. Appends (g.W.Sink.contents c.args.output.now) (g.W.Sink.contents c.write_whole.new.sink) l)
    (c.deref.ensures.value ∙ end-put c.args.known.now _ _ c.requires.known c.in_ok-text.ensures.items c.in_ok-put_end.ensures)
    c.in_ok-write_whole.ensures.whole
