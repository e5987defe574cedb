use Rattle.std.proofs.Common.{◌≡◌, ℕ, List, Option, ◌+◌, ◌∙◌, ap, arith, Some, [], ◌∷◌, slice_index}
use Rattle.std.proofs.lemmas.Result.{err_from_is_err_and}
use Rattle.hub_base.specs.declared.value.Port.{Port}
use Rattle.hub_core.specs.HubView.{ShortInMemory, state_of}
use Rattle.hub_chapters.specs.Carried.{received_count}
use Rattle.hub_chapters.specs.Chapters.Chapters.{Cut}
use Rattle.hub_cut.specs.Totals.{in_64_bits}
use Rattle.std.specs.Option.{option_map}
use Rattle.hub_cut.specs.Recorder.{hub_in}
use Rattle.hub_cut.specs.RecorderKeeps.{shown}
use Rattle.hub_cut.proofs.ChapterTexts.{text_fits}
use Rattle.hub_cut.proofs.Recording.{begins_as, goes_cut, refuses_cut, records_cut, recorder_legal}
use Rattle.hub_cut.proofs.recorder.Recorder.begin_chapter.Goals as goal

-- the hub that is kept is the one that was there
kept_as : {before : Option ShortInMemory} {whole hub : ShortInMemory} → before ≡ Some whole → whole ≡ hub → option_map hub_in before ≡ Some (hub_in hub)
kept_as kept same = ap (option_map hub_in) (kept ∙ ap Some same)

-- and what it received is counted
added_as : (bases : List ℕ) (p : Port) {whole hub : ShortInMemory} → whole ≡ hub
    → in_64_bits (slice_index bases p.0 + received_count (state_of (hub_in whole)) p)
    ≡ in_64_bits (slice_index bases p.0 + received_count (state_of (hub_in hub)) p)
added_as bases p same = ap (λ (h : ShortInMemory). in_64_bits (slice_index bases p.0 + received_count (state_of (hub_in h)) p)) same

pub returns-in_err-whole-clause-refused : goal.returns-in_err-whole-clause-refused
returns-in_err-whole-clause-refused g c =
    let p = err_from_is_err_and c.from_residual.result c.from_residual.ensures.1 in
    let full = begins_as c.args.entry.now.step c.self.view_is c.requires.full in
    rw (p.1, p.2, ← c.self.view_is) (refuses_cut _ c.args.entry.now c.in_err-whole.field-0.0 full c.in_err-whole.ensures.refused)

pub invariant_of-self-2 : goal.invariant_of-self-2
invariant_of-self-2 g c =
    let steps = c.in_ok-whole.ensures.ok.holds in
    let old = shown c.self.inside in
    let e = c.args.entry.now in
    let handed = kept_as c.keep_last.ensures.kept c.in_ok-whole.ensures.whole in
    record {
      head = rw steps.terms c.self.invariant.head;
      limit = rw steps.terms c.self.invariant.limit;
      keep = c.self.invariant.keep;
      recorder = (
        Cut c.self.invariant.recorder.0 (e ∷ []),
        rw (handed, c.most_line-bytes.ensures.most)
            (records_cut c.self.invariant.recorder.0 old e c.cut_and_step.new.chapter.hub.memory.hub c.cut_and_step.new.chapter.checkpoint
            c.in_ok-whole.ensures.ok.told
            c.add_received.new.bases c.self.invariant.recorder.1 (begins_as e.step c.self.view_is c.requires.full) c.self.invariant.keep.0 steps
            c.in_ok-whole.ensures.checkpoint
            (λ p few. c.add_received.ensures p.0 (omega (arith, c.self.told, few)) ∙ added_as old.bases p c.in_ok-whole.ensures.whole)),
      );
      lines = rw c.most_line-bytes.ensures.most c.in_ok-whole.ensures.lines;
      bytes = omega (arith, c.most_line-bytes.ensures.few);
      text_before = rw handed (text_fits old.hub old.bytes c.self.invariant.head (recorder_legal old c.self.invariant.recorder)
          c.self.invariant.lines c.self.invariant.bytes);
    }

pub returns-clause-ok : goal.returns-clause-ok
returns-clause-ok g c =
    let next = c.in_ok-whole.ensures.ok in
    let old = shown c.self.inside in
    let full = begins_as c.args.entry.now.step c.self.view_is c.requires.full in
    record {
      told = next.told;
      heard = next.heard;
      holds = rw (← c.self.view_is, kept_as c.keep_last.ensures.kept c.in_ok-whole.ensures.whole, c.most_line-bytes.ensures.most)
          (goes_cut old c.args.entry.now _ _ _ _ full c.self.invariant.keep.0 next.holds c.in_ok-whole.ensures.checkpoint
          (λ p few. c.add_received.ensures p.0 (omega (arith, c.self.told, few)) ∙ added_as old.bases p c.in_ok-whole.ensures.whole));
    }

pub returns-clause-handed_out : goal.returns-clause-handed_out
returns-clause-handed_out g c = rw (← c.self.view_is) (ap (option_map hub_in) c.keep_last.ensures.handed_out)

pub returns-clause-text : goal.returns-clause-text
returns-clause-text g c = rw (← c.self.view_is) c.self.invariant.text_before
