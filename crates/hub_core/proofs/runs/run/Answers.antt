use Rattle.std.proofs.Common.{◌≡◌, ◌∙◌, List, arith, refl, subst, sym, true}
use Rattle.std.proofs.lemmas.Bool.{and_parts}
use Rattle.std.proofs.lemmas.List.Folds.{list_all-append}
use Rattle.std.specs.List.{list_all}
use Rattle.std.proofs.lemmas.Option.{slice_get_read}
use Rattle.hub_base.specs.Entry.{Entry}
use Rattle.hub_base.specs.Head.{head_of, is_of}
use Rattle.hub_base.specs.Runs.{state}
use Rattle.hub_core.specs.HubView.{terms_of}
use Rattle.hub_laws.proofs.Once.{once-law}
use Rattle.hub_laws.proofs.AfterClose.{after_close-law, never-opened}
use Rattle.hub_core.proofs.Journeys.{so_far, run_on, next_fits, refuses_at, run_whole, never_full, values_kept}
use Rattle.hub_core.proofs.runs.run.Goals as goal

pub answer-requires : goal.answer-requires
answer-requires c = record {
  fits = next_fits (terms_of c.args.edition c.args.procs c.args.limit) c.args.entries.now c.loop-index.index c.index-entries-index.result _ _ c.requires.fits
      (so_far (terms_of c.args.edition c.args.procs c.args.limit) c.in-Ok.hub.memory.hub _ _ _ _ c.in-Ok.ensures.ok c.loop-index.invariant)
      (slice_get_read c.args.entries.now _ c.loop-index.index c.index-entries-index.result refl (omega arith) c.index-entries-index.is);
}

pub loop-index-preserved : goal.loop-index-preserved
loop-index-preserved c =
    run_on c.in-Ok.hub.memory.hub.terms c.args.entries.now c.loop-index.index c.index-entries-index.result _ _ _ _ c.loop-index.invariant
    (slice_get_read c.args.entries.now _ c.loop-index.index c.index-entries-index.result refl (omega arith) c.index-entries-index.is)
    c.in-Ok-answer.ensures.ok

pub returns-in-Err-answer-clause-refused : goal.returns-in-Err-answer-clause-refused
returns-in-Err-answer-clause-refused c =
    refuses_at (terms_of c.args.edition c.args.procs c.args.limit) c.args.entries.now c.loop-index.index c.index-entries-index.result _ _
    c.in-Err-answer.fault (so_far (terms_of c.args.edition c.args.procs c.args.limit) c.in-Ok.hub.memory.hub _ _ _ _ c.in-Ok.ensures.ok c.loop-index.invariant)
    (slice_get_read c.args.entries.now _ c.loop-index.index c.index-entries-index.result refl (omega arith) c.index-entries-index.is)
    c.in-Err-answer.ensures.err

pub returns-clause-ok : goal.returns-clause-ok
returns-clause-ok c =
    run_whole (terms_of c.args.edition c.args.procs c.args.limit) c.args.entries.now c.loop-index.index _ _
    (so_far (terms_of c.args.edition c.args.procs c.args.limit) c.in-Ok.hub.memory.hub _ _ _ _ c.in-Ok.ensures.ok c.loop-index.invariant)
    (omega arith)

pub returns-clause-received_then_buffered : goal.returns-clause-received_then_buffered
returns-clause-received_then_buffered c =
    values_kept (terms_of c.args.edition c.args.procs c.args.limit) c.args.entries.now _ _
    (run_whole (terms_of c.args.edition c.args.procs c.args.limit) c.args.entries.now c.loop-index.index _ _
    (so_far (terms_of c.args.edition c.args.procs c.args.limit) c.in-Ok.hub.memory.hub _ _ _ _ c.in-Ok.ensures.ok c.loop-index.invariant)
    (omega arith))

pub returns-clause-at_most_one_case : goal.returns-clause-at_most_one_case
returns-clause-at_most_one_case c = once-law (head_of c.args.edition c.args.procs) c.args.entries.now

pub returns-clause-after_close : goal.returns-clause-after_close
returns-clause-after_close c = λ before pid port later is. after_close-law (head_of c.args.edition c.args.procs) before later pid port

pub returns-clause-never : goal.returns-clause-never
returns-clause-never c = λ old before later port is.
    let rest = and_parts (list_all (λ e. is_of c.args.edition e.step) before) (list_all (λ e. is_of c.args.edition e.step) later)
    (sym (list_all-append (λ e. is_of c.args.edition e.step) before later)
    ∙ subst (λ (es : List Entry). list_all (λ e. is_of c.args.edition e.step) es ≡ true) is c.requires.fits) in
    never-opened c.args.edition port (state (head_of c.args.edition c.args.procs) before) later old rest.1

pub returns-clause-never_full : goal.returns-clause-never_full
returns-clause-never_full c =
    never_full (terms_of c.args.edition c.args.procs c.args.limit) c.args.entries.now c.loop-index.index _ _
    (so_far (terms_of c.args.edition c.args.procs c.args.limit) c.in-Ok.hub.memory.hub _ _ _ _ c.in-Ok.ensures.ok c.loop-index.invariant)
    (omega arith)
