use Rattle.std.proofs.Common.{◌≡◌, ◌≤◌, ◌+◌, ap, arith, length, refl, subst, sym, ◌∙◌}
use Rattle.hub_base.proofs.Results.{on-err}
use Rattle.hub_story_text.specs.Explained.{entries_of, lines_from, told_of}
use Rattle.hub_story_text.specs.Seen.{IsSeen}
use Rattle.hub_story_text.proofs.AllBut.{begun, more-written, next-begun, none-yet}
use Rattle.hub_story_text.proofs.StepTexts.{no-step-left}
use Rattle.hub_story_text.proofs.steps.write_steps.Goals as goal

pub loop-place-init : goal.loop-place-init
loop-place-init g c = record {
  at = c.requires.at;
  seen = c.requires.none;
  written = none-yet _ _;
  same = refl;
}

pub note-requires-clause-came : goal.note-requires-clause-came
note-requires-clause-came g c = c.came-came.ensures ∙ c.in_ok-entry.ensures.came

pub put_step-requires-clause-came : goal.put_step-requires-clause-came
put_step-requires-clause-came g c = c.came-came.ensures ∙ c.in_ok-entry.ensures.came

pub loop-place-preserved : goal.loop-place-preserved
loop-place-preserved g c =
    let so = c.loop-place.invariant in
    let e = c.args.explained.now in
    record {
      at = c.in_ok-entry.ensures.at;
      seen = c.in_ok-end.ensures.seen;
      written =
          more-written so.written _ c.put_step.new.out.items c.write_many.new.text.items
          (lines_from e c.args.window (c.loop-place.place + 1)) (sym c.in_ok-put_step.ensures)
          c.in_ok-write_many.ensures.whole;
      same = c.in_ok-write_many.ensures.ok ∙ so.same;
    }

pub returns-in_err-entry-clause-beginning : goal.returns-in_err-entry-clause-beginning
returns-in_err-entry-clause-beginning g c = on-err c.from_residual.result (begun c.loop-place.invariant.written)

pub returns-in_err-end-clause-beginning : goal.returns-in_err-end-clause-beginning
returns-in_err-end-clause-beginning g c = on-err c.from_residual-in_err-end.result (begun c.loop-place.invariant.written)

pub returns-in_err-put_step-clause-beginning : goal.returns-in_err-put_step-clause-beginning
returns-in_err-put_step-clause-beginning g c = on-err c.from_residual-in_err-put_step.result (begun c.loop-place.invariant.written)

pub returns-in_err-write_many-clause-beginning : goal.returns-in_err-write_many-clause-beginning
returns-in_err-write_many-clause-beginning g c =
    on-err c.from_residual-in_err-write_many.result
    (next-begun c.loop-place.invariant.written _ c.put_step.new.out.items _ (sym c.in_ok-put_step.ensures) c.in_err-write_many.ensures.beginning)

pub returns-clause-seen : goal.returns-clause-seen
returns-clause-seen g c =
    let es = entries_of c.args.explained.now in
    let last : c.loop-place.place ≡ length es =
    omega (arith, c.loop-place.auto.place-end, c.loop-place-test.false, c.len-place-end.ensures, ap length c.entries.ensures) in
    subst (λ k. IsSeen c.args.explained.now k c.loop-place.seen) last c.loop-place.invariant.seen

pub returns-clause-whole : goal.returns-clause-whole
returns-clause-whole g c =
    let e = c.args.explained.now in
    let past : length (entries_of e) ≤ c.loop-place.place =
    omega (arith, c.loop-place-test.false, c.len-place-end.ensures, ap length c.entries.ensures) in
    rw (no-step-left e.paint c.args.window e.clock (entries_of e) (told_of e) c.loop-place.place c.loop-place.text.items past)
    at c.loop-place.invariant.written
