use Rattle.std.proofs.Common.{◌≡◌, ◌∙◌, ◌<◌, ◌≤◌, ◌+◌, ◌++◌, ◌∷◌, [], add-one, ap, arith, length, length-append, subst, sym, take}
use Rattle.std.proofs.Math.Seq.{take-suc}
use Rattle.std.proofs.lemmas.List.{flat_map_more}
use Rattle.std.proofs.lemmas.List.Folds.{length-flat_map-take}
use Rattle.std.proofs.lemmas.Option.{get_or_from_slice_get}
use Rattle.std.proofs.lemmas.Result.{err_from_is_err_and}
use Rattle.std.specs.List.{flat_map}
use Rattle.hub_base.specs.Entry.{Entry}
use Rattle.hub_base.specs.Lines.{line}
use Rattle.hub_core.proofs.Journeys.{fits_at}
use Rattle.hub_core.proofs.short_journal.write_lines.Goals as goal

pub write_entry-requires : goal.write_entry-requires
write_entry-requires c =
    record { fits = fits_at c.args.edition c.args.entries.now c.loop-place.place c.entry.result c.requires.fits c.entry.ensures }

pub loop-place-preserved : goal.loop-place-preserved
loop-place-preserved c =
    let es = c.args.entries.now in
    let place = c.loop-place.place in
    let e = c.entry.result in
    let below : place < length es = omega (arith, c.loop-place-test.true, c.len-place-end.ensures) in
    let grown : take (place + 1) es ≡ take place es ++ e ∷ [] =
    rw add-one (take-suc es place e below) ∙ ap (λ x. take place es ++ x ∷ []) (get_or_from_slice_get es place e e c.entry.ensures) in
    record {
      items = c.in_ok-write_entry.ensures.ok
          ∙ ap (λ xs. xs ++ line e) c.loop-place.invariant.items
          ∙ flat_map_more line c.args.out.now.items (take place es) e
          ∙ ap (λ xs. c.args.out.now.items ++ flat_map line xs) (sym grown);
      capacity = omega (arith, c.loop-place.invariant.capacity, c.in_ok-write_entry.ensures.capacity);
    }

pub returns-in_err-write_entry-clause-err : goal.returns-in_err-write_entry-clause-err
returns-in_err-write_entry-clause-err c =
    let so_far = flat_map line (take c.loop-place.place c.args.entries.now) in
    let failed = err_from_is_err_and c.from_residual.result c.from_residual.ensures.1 in
    rw failed.1 (so_far, c.in_err-write_entry.ensures.err ∙ c.loop-place.invariant.items)

pub returns-in_err-write_entry-clause-succeeds : goal.returns-in_err-write_entry-clause-succeeds
returns-in_err-write_entry-clause-succeeds c = λ room.
    let es = c.args.entries.now in
    let place = c.loop-place.place in
    let e = c.entry.result in
    let below : place < length es = omega (arith, c.loop-place-test.true, c.len-place-end.ensures) in
    let so_far = flat_map line (take place es) in
    let within : length so_far + length (line e) ≤ length (flat_map line es) =
    subst (λ (x : Entry). length so_far + length (line x) ≤ length (flat_map line es)) (get_or_from_slice_get es place e e c.entry.ensures)
    (length-flat_map-take line es place e below) in
    let refused = c.in_err-write_entry.ensures.succeeds (omega (
      arith,
      room,
      within,
      c.loop-place.invariant.capacity,
      ap length c.loop-place.invariant.items,
      length-append c.args.out.now.items so_far,
    )) in
    cc (refused)
