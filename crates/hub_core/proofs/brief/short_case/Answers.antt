use Rattle.std.proofs.Common.{◌∙◌, [], Option, ap, sym}
use Rattle.std.specs.Option.{option_map_or}
use Rattle.std.specs.Prelude.{slice_get}
use Rattle.hub_base.specs.Entry.{Entry}
use Rattle.hub_core.specs.LogView.{cases_of}
use Rattle.hub_core.proofs.Logs.{none_written, stands_at}
use Rattle.hub_core.proofs.brief.short_case.Goals as goal

pub returns-in_default : goal.returns-in_default
returns-in_default c = ap (λ (e : Option Entry). slice_get (option_map_or cases_of e []) c.args.number)
    (sym (none_written c.args.briefs.now c.args.cases.now.items c.args.place c.in_default.ensures.lookup.3))

pub case-requires : goal.case-requires
case-requires c =
    let b = c.in-Some.brief.now in
    let all = c.args.cases.now.items in
    (stands_at c.args.briefs.now all c.args.place b c.requires.briefs c.requires.begin c.in-Some.ensures.lookup.3).within

pub returns : goal.returns
returns c =
    let b = c.in-Some.brief.now in
    let all = c.args.cases.now.items in
    let here = stands_at c.args.briefs.now all c.args.place b c.requires.briefs c.requires.begin c.in-Some.ensures.lookup.3 in
    c.case.ensures ∙ ap (λ (e : Option Entry). slice_get (option_map_or cases_of e []) c.args.number) (sym here.is)
