use Rattle.std.proofs.Common.{◌≡◌, ◌++◌, ◌∙◌, List, [], ℕ, ap, append-nil, subst, sym}
use Rattle.std.specs.Io.KnownBytes.{Appends}
use Rattle.hub_base.proofs.Results.{on-err}
use Rattle.hub_replay.specs.Devices.{AppendsBeginning}
use Rattle.hub_story_text.specs.Explained.{entries_of, head_of, told_of}
use Rattle.hub_story_text.specs.StoryText.{end_text, heading}
use Rattle.hub_story_text.proofs.AllBut.{all-written, begun, end-begun, next-begun, with-end}
use Rattle.hub_story_text.proofs.text.write_explained.Goals as goal

-- the whole, where the first text is the heading
whole : (text steps end : List ℕ) → text ≡ heading → heading ++ steps ++ end ≡ text ++ steps ++ end
whole text steps end is = ap (λ l. l ++ steps ++ end) (sym is)

pub returns-in_err-write_steps-clause-beginning : goal.returns-in_err-write_steps-clause-beginning
returns-in_err-write_steps-clause-beginning g c =
    let heads = rw c.new-text.ensures.items at c.in_ok-extend_from_slice.ensures.items in
    on-err c.from_residual-in_err-write_steps.result (end-begun _ _ _ _ _ (whole _ _ _ heads) c.in_err-write_steps.ensures.beginning)

pub returns-in_err-put_end-clause-beginning : goal.returns-in_err-put_end-clause-beginning
returns-in_err-put_end-clause-beginning g c =
    let heads = rw c.new-text.ensures.items at c.in_ok-extend_from_slice.ensures.items in
    on-err c.from_residual-in_err-put_end.result (end-begun _ _ _ _ _ (whole _ _ _ heads) (begun c.in_ok-write_steps.ensures.whole))

pub returns-in_err-write_whole-clause-beginning : goal.returns-in_err-write_whole-clause-beginning
returns-in_err-write_whole-clause-beginning g c =
    let heads = rw c.new-text.ensures.items at c.in_ok-extend_from_slice.ensures.items in
    let put = sym (c.deref.ensures.value ∙ c.in_ok-put_end.ensures) in
    on-err c.from_residual-in_err-write_whole.result
    (subst (λ l. AppendsBeginning (g.W.Sink.contents c.args.output.now) (g.W.Sink.contents c.write_whole.new.sink) l) (sym (whole _ _ _ heads))
    (next-begun (with-end c.in_ok-write_steps.ensures.whole _) _ _ [] (put ∙ sym (append-nil _)) c.in_err-write_whole.ensures.beginning))

pub returns-clause-whole : goal.returns-clause-whole
returns-clause-whole g c =
    let heads = rw c.new-text.ensures.items at c.in_ok-extend_from_slice.ensures.items in
    let e = c.args.explained.now in
    let end = end_text e.clock (head_of e) (entries_of e) (told_of e) in
    subst (λ l. Appends (g.W.Sink.contents c.args.output.now) (g.W.Sink.contents c.write_whole.new.sink) l) (sym (whole _ _ end heads))
    (all-written (with-end c.in_ok-write_steps.ensures.whole end) _
    (subst (λ l. Appends (g.W.Sink.contents c.write_steps.new.output) (g.W.Sink.contents c.write_whole.new.sink) l)
    (c.deref.ensures.value ∙ c.in_ok-put_end.ensures) c.in_ok-write_whole.ensures.whole))
