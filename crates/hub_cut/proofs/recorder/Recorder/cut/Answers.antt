use Rattle.std.proofs.Common.{◌≡◌, ◌+◌, ◌∙◌, ap, refl, arith, Some, [], slice_index}
use Rattle.std.specs.Option.{option_map}
use Rattle.hub_core.specs.HubView.{HubView, ShortInMemory, state_of}
use Rattle.hub_chapters.specs.Carried.{received_count}
use Rattle.hub_chapters.specs.Chapters.Chapters.{Cut}
use Rattle.hub_cut.specs.Recorder.{hub_in}
use Rattle.hub_cut.specs.RecorderKeeps.{shown}
use Rattle.hub_cut.specs.Totals.{in_64_bits}
use Rattle.hub_cut.proofs.ChapterTexts.{text_fits}
use Rattle.hub_cut.proofs.Recording.{records_early, recorder_legal}
use Rattle.hub_cut.proofs.recorder.Recorder.cut.Goals as goal

pub invariant_of-self-2 : goal.invariant_of-self-2
invariant_of-self-2 c =
    let old = shown c.self.inside in
    let whole = c.in_ok-whole.ensures.whole in
    let cut = c.in_ok-whole.ensures.goes_on in
    let terms = ap (λ (h : HubView). h.terms) cut.hub in
    let handed : option_map hub_in c.keep_last.new.before ≡ Some old.hub =
    ap (option_map hub_in) c.keep_last.ensures.kept ∙ ap (λ (h : ShortInMemory). Some (hub_in h)) whole in
    record {
      head = rw terms c.self.invariant.head;
      limit = rw terms c.self.invariant.limit;
      keep = c.self.invariant.keep;
      recorder = (
        Cut c.self.invariant.recorder.0 [],
        rw handed
            (records_early c.self.invariant.recorder.0 old c.cut_short.new.chapter.hub.memory.hub c.cut_short.new.chapter.checkpoint
            c.add_received.new.bases c.self.invariant.recorder.1 cut c.in_ok-whole.ensures.checkpoint
            (λ p few. c.add_received.ensures p.0 (omega (arith, c.self.told, few))
            ∙ ap (λ (h : ShortInMemory). in_64_bits (slice_index old.bases p.0 + received_count (state_of h.memory.hub) p)) whole)),
      );
      lines = c.in_ok-whole.ensures.lines;
      bytes = omega arith;
      text_before = rw handed (text_fits old.hub old.bytes c.self.invariant.head (recorder_legal old c.self.invariant.recorder)
          c.self.invariant.lines c.self.invariant.bytes);
    }

pub returns-clause-ok : goal.returns-clause-ok
returns-clause-ok c =
    let old = shown c.self.inside in
    let whole = c.in_ok-whole.ensures.whole in
    let cut = c.in_ok-whole.ensures.goes_on in
    let kept : option_map hub_in c.keep_last.new.before ≡ Some old.hub =
    ap (option_map hub_in) c.keep_last.ensures.kept ∙ ap (λ (h : ShortInMemory). Some (hub_in h)) whole in
    rw (← c.self.view_is, kept)
    (record {
      goes_on = λ chapters so. records_early chapters old c.cut_short.new.chapter.hub.memory.hub c.cut_short.new.chapter.checkpoint
          c.add_received.new.bases so cut c.in_ok-whole.ensures.checkpoint
          (λ p few. c.add_received.ensures p.0 (omega (arith, c.self.told, few))
          ∙ ap (λ (h : ShortInMemory). in_64_bits (slice_index old.bases p.0 + received_count (state_of h.memory.hub) p)) whole);
      terms = ap (λ (h : HubView). h.terms) cut.hub;
      keep = refl;
      early = refl;
    })

pub returns-clause-handed_out : goal.returns-clause-handed_out
returns-clause-handed_out c = rw (← c.self.view_is) (ap (option_map hub_in) c.keep_last.ensures.handed_out)

pub returns-clause-text : goal.returns-clause-text
returns-clause-text c =
    let out = ap (option_map hub_in) c.keep_last.ensures.handed_out in
    rw out c.self.invariant.text_before
