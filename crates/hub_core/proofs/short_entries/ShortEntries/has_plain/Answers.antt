use Rattle.std.proofs.Common.{◌≡◌, ◌∙◌, List, Some, ap, drop, subst, sym, take}
use Rattle.std.specs.Prelude.{slice_get}
use Rattle.hub_base.specs.Entry.{Entry}
use Rattle.hub_core.specs.declared.brief.Brief.{Brief}
use Rattle.hub_core.specs.LogView.{AreBriefs, StandFrom, case_count, cases_beside, entry_of, first_of, written}
use Rattle.hub_core.proofs.Logs.{stands_at}
use Rattle.hub_core.proofs.short_entries.ShortEntries.has_plain.Goals as goal

pub returns-in-Some-get : goal.returns-in-Some-get
returns-in-Some-get c = λ true.
    let bs = c.deref.result.now in
    let all = c.self.inside.cases.items in
    let place = c.args.place in
    let there = c.in-Some-get.there.now in
    let e = c.args.entry.now in
    let briefs : AreBriefs bs all = subst (λ (k : List Brief). AreBriefs k all) (sym c.deref.ensures.value) c.self.invariant.0 in
    let begin : StandFrom 0 bs = subst (λ (k : List Brief). StandFrom 0 k) (sym c.deref.ensures.value) c.self.invariant.1 in
    let here = stands_at bs all place there briefs begin c.in-Some-get.ensures.lookup.3 in
    let same : entry_of there (take (case_count there) (drop (first_of there) all)) ≡ e =
    c.is_same_plain.ensures true (take (case_count there) (drop (first_of there) all)) (cases_beside e c.in-Some.brief)
    ∙ (c.in-Some.ensures 0).again in
    ap (λ (es : List Entry). slice_get es place) (sym c.self.view_is)
    ∙ ap (λ (k : List Brief). slice_get (written k all) place) (sym c.deref.ensures.value) ∙ here.is ∙ ap Some same
