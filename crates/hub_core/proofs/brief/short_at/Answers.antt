use Rattle.std.proofs.Common.{◌∙◌, Some, ap, arith, drop, sym, take}
use Rattle.std.specs.Prelude.{ℕ}
use Rattle.hub_core.specs.LogView.{case_count, entry_of}
use Rattle.hub_core.proofs.Logs.{none_written, stands_at}
use Rattle.hub_core.proofs.brief.short_at.Goals as goal

pub returns-in_default : goal.returns-in_default
returns-in_default c = sym (none_written c.args.briefs.now c.args.cases.now.items c.args.place c.in_default.ensures.lookup.3)

pub by_slice-requires : goal.by_slice-requires
by_slice-requires c =
    let b = c.in-Some.brief.now in
    let all = c.args.cases.now.items in
    let here = stands_at c.args.briefs.now all c.args.place b c.requires.briefs c.requires.begin c.in-Some.ensures.lookup.3 in
    record { there = omega (arith, here.within, c.first.ensures); few = here.few }

pub returns : goal.returns
returns c =
    let b = c.in-Some.brief.now in
    let all = c.args.cases.now.items in
    let here = stands_at c.args.briefs.now all c.args.place b c.requires.briefs c.requires.begin c.in-Some.ensures.lookup.3 in
    ap Some (c.by_slice.ensures ∙ ap (λ (n : ℕ). entry_of b (take (case_count b) (drop n all))) c.first.ensures) ∙ sym here.is
