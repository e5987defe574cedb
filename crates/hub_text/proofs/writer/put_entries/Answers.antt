use Rattle.std.proofs.Common.{refl, subst, Err, Ok}
use Rattle.hub_base.specs.Entry.{Entry}
use Rattle.hub_base.specs.Lines.{line}
use Rattle.hub_text.specs.Writing.{Appends}
use Rattle.hub_text.proofs.Appending.{each-more, each-done, each-part}
use Rattle.hub_text.proofs.writer.put_entries.Goals as goal

pub returns : goal.returns
returns c = each-done line c.args.entries.now c.loop-entry.entry-index c.loop-entry-test.false c.loop-entry.invariant

pub returns-in-Err : goal.returns-in-Err
returns-in-Err c =
    let entries = c.args.entries.now in
    let i = c.loop-entry.entry-index in
    let told = subst (λ (e : Entry). Appends c.loop-entry.out c.put_entry.new.out (line e) (Err c.in-Err.field-0)) c.by_slice.ensures c.in-Err.ensures in
    let here = each-more line entries i c.entry-item.result c.loop-entry-test.true c.entry-item.is c.loop-entry.invariant told in
    each-part line entries i (Err c.in-Err.field-0) here refl

pub loop-entry-preserved : goal.loop-entry-preserved
loop-entry-preserved c =
    let told = subst (λ (e : Entry). Appends c.loop-entry.out c.put_entry.new.out (line e) (Ok c.in-Ok.field-0)) c.by_slice.ensures c.in-Ok.ensures in
    each-more line c.args.entries.now c.loop-entry.entry-index c.entry-item.result c.loop-entry-test.true c.entry-item.is c.loop-entry.invariant told
