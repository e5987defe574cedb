use Rattle.std.proofs.Common.{◌≡◌, ◌∙◌, Option, true, false, ap, subst, sym}
use Rattle.std.specs.Prelude.{IfSome, OnOk}
use Rattle.std.specs.Option.{option_map}
use Rattle.hub_core.specs.HubView.{HubView}
use Rattle.hub_cut.specs.ChapterText.{FitsText}
use Rattle.hub_cut.specs.Recorder.{hub_in, begins}
use Rattle.hub_cut.proofs.Recording.{anyway, handed_full, handed_none, out_full, out_none}
use Rattle.hub_cut.proofs.recorder.Recorder.step_heard.Goals as goal

pub returns-then-begins-clause-handed_out : goal.returns-then-begins-clause-handed_out
returns-then-begins-clause-handed_out g c =
    let full : begins c.args.self.now c.args.entry.now.step ≡ true = sym c.begins.ensures ∙ c.if-begins.true in
    subst (λ (o : Option HubView). OnOk c.begin_chapter.result (option_map hub_in c.begin_chapter.new.out ≡ o))
    (handed_full c.args.self.now c.args.entry.now.step (option_map hub_in c.args.out.now) full (ap (option_map hub_in) (c.requires.empty full)))
    c.begin_chapter.ensures.handed_out

pub returns-then-begins-clause-text : goal.returns-then-begins-clause-text
returns-then-begins-clause-text g c =
    let full : begins c.args.self.now c.args.entry.now.step ≡ true = sym c.begins.ensures ∙ c.if-begins.true in
    subst (λ (o : Option HubView). OnOk c.begin_chapter.result (IfSome o FitsText)) (sym (out_full c.args.self.now c.args.entry.now.step full))
    c.begin_chapter.ensures.text

pub returns-clause-handed_out : goal.returns-clause-handed_out
returns-clause-handed_out g c =
    let room : begins c.args.self.now c.args.entry.now.step ≡ false = sym c.begins.ensures ∙ c.if-begins.false in
    anyway c.go_on.result (handed_none c.args.self.now c.args.entry.now.step (option_map hub_in c.args.out.now) room)

pub returns-clause-text : goal.returns-clause-text
returns-clause-text g c =
    let room : begins c.args.self.now c.args.entry.now.step ≡ false = sym c.begins.ensures ∙ c.if-begins.false in
    anyway c.go_on.result (subst (λ (o : Option HubView). IfSome o FitsText) (sym (out_none c.args.self.now c.args.entry.now.step room)) tt)
