use Rattle.std.proofs.Common.{◌≡◌, ◌∙◌, List, ap, arith, length, sym, subst}
use Rattle.std.proofs.lemmas.Grind.{common_steps}
use Rattle.std.specs.Prelude.{IfOk}
use Rattle.hub_base.specs.Entry.{Entry}
use Rattle.hub_core.specs.LogView.{LogView}
use Rattle.hub_core.proofs.Logs.{all_length, all_whole}
use Rattle.hub_core.proofs.log.Log.into_short.Goals as goal

pub returns-then-not-is_empty-clause-items : goal.returns-then-not-is_empty-clause-items
returns-then-not-is_empty-clause-items c =
    let log = c.log-then-not-is_empty in
    let inside = log.inside in
    let all : c.deref.result.now ≡ c.args.self.items =
    c.deref.ensures.value
    ∙ sym (all_whole inside.whole.items inside.briefs.items inside.cases.items (ap (λ (v : LogView). v.short) log.view_is ∙ c.write_out.ensures.short))
    ∙ ap (λ (v : LogView). v.items) log.view_is ∙ c.write_out.ensures.items in
    subst (λ (es : List Entry). IfOk c.shortened.result (λ list. list ≡ es)) all c.shortened.ensures

pub returns-then-not-is_empty-clause-short : goal.returns-then-not-is_empty-clause-short
returns-then-not-is_empty-clause-short c = λ all.
    let inside = c.log.inside in
    let none : length inside.whole.items ≡ 0 =
    omega (
      arith,
      all,
      ap (λ (v : LogView). v.short) c.log.view_is,
      ap (λ (v : LogView). length v.items) c.log.view_is,
      all_length inside.whole.items inside.briefs.items inside.cases.items,
    ) in
    absurd (grind (arith, common_steps, none, c.is_empty.ensures, c.if-not-is_empty.true, inside.whole.ok))
