use Rattle.std.proofs.Common.{◌∙◌, List, Option, ap, false, sym}
use Rattle.std.specs.Option.{option_map_or}
use Rattle.std.specs.Prelude.{slice_get}
use Rattle.hub_base.specs.Entry.{Entry}
use Rattle.hub_laws.specs.Once.{is_call}
use Rattle.hub_core.specs.declared.brief.Brief.{Brief}
use Rattle.hub_core.specs.LogView.{written}
use Rattle.hub_core.proofs.Logs.{brief-tells, mapped-is, none_written, same_kind}
use Rattle.hub_core.proofs.short_entries.ShortEntries.is_call_at.Goals as goal

pub returns-in-Some : goal.returns-in-Some
returns-in-Some c =
    let cases = c.self.inside.cases.items in
    let place = c.args.place in
    let f = λ (e : Entry). is_call e.step in
    c.is_call.ensures
    ∙ sym (mapped-is f (slice_get (written c.deref.result.now cases) place) _
    (brief-tells f same_kind c.deref.result.now cases place c.in-Some.brief.now c.in-Some.ensures.lookup.3))
    ∙ ap (λ (bs : List Brief). option_map_or f (slice_get (written bs cases) place) false) c.deref.ensures.value
    ∙ ap (λ (es : List Entry). option_map_or f (slice_get es place) false) c.self.view_is

pub returns-in-None : goal.returns-in-None
returns-in-None c =
    let cases = c.self.inside.cases.items in
    let place = c.args.place in
    let f = λ (e : Entry). is_call e.step in
    ap (λ (o : Option Entry). option_map_or f o false) (sym (none_written c.deref.result.now cases place c.in-None.ensures.lookup.3))
    ∙ ap (λ (bs : List Brief). option_map_or f (slice_get (written bs cases) place) false) c.deref.ensures.value
    ∙ ap (λ (es : List Entry). option_map_or f (slice_get es place) false) c.self.view_is
