use Rattle.std.proofs.Common.{◌∙◌, List, Some, ap, sym}
use Rattle.std.specs.Option.{option_map}
use Rattle.std.specs.Prelude.{slice_get}
use Rattle.hub_base.specs.Entry.{Entry}
use Rattle.hub_core.specs.declared.brief.Brief.{Brief}
use Rattle.hub_core.specs.LogView.{written}
use Rattle.hub_core.proofs.Logs.{brief-tells, none_written, same_pid}
use Rattle.hub_core.proofs.short_entries.ShortEntries.pid_at.Goals as goal

pub returns-in-Some : goal.returns-in-Some
returns-in-Some c =
    let cases = c.self.inside.cases.items in
    let place = c.args.place in
    ap Some c.pid.ensures
    ∙ sym (brief-tells (λ (e : Entry). e.pid) same_pid c.deref.result.now cases place c.in-Some.brief.now c.in-Some.ensures.lookup.3)
    ∙ ap (λ (bs : List Brief). option_map (λ (e : Entry). e.pid) (slice_get (written bs cases) place)) c.deref.ensures.value
    ∙ ap (λ (es : List Entry). option_map (λ (e : Entry). e.pid) (slice_get es place)) c.self.view_is

pub returns-in-None : goal.returns-in-None
returns-in-None c =
    let cases = c.self.inside.cases.items in
    let place = c.args.place in
    ap (option_map (λ (e : Entry). e.pid)) (sym (none_written c.deref.result.now cases place c.in-None.ensures.lookup.3))
    ∙ ap (λ (bs : List Brief). option_map (λ (e : Entry). e.pid) (slice_get (written bs cases) place)) c.deref.ensures.value
    ∙ ap (λ (es : List Entry). option_map (λ (e : Entry). e.pid) (slice_get es place)) c.self.view_is
