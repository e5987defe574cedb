-- What every recorder keeps.
use Rattle.std.specs.Prelude.{◌≡◌, ◌<◌, ◌+◌, IfSome}
use Rattle.std.specs.Option.{option_map}
use Rattle.hub_base.specs.declared.limits.TheConstants.{MOST_STEPS}
use Rattle.hub_base.specs.Head.{IsHead}
use Rattle.hub_cut.specs.declared.recorder.Recorder.TheInside.{Inside}
use Rattle.hub_cut.specs.declared.limits.TheConstants.{CHAPTER_BYTES, MOST_LINE_BYTES}
use Rattle.hub_cut.specs.ChapterText.{FitLines, FitsText}
use Rattle.hub_cut.specs.Recorder.{RecorderView, IsKeep, IsRecorder, hub_in}

-- what contracts see of it
abbrev pub shown : Inside → RecorderView
shown r =
    record {
      hub = hub_in r.present.hub;
      before = option_map hub_in r.before;
      keep = r.keep;
      checkpoint = r.present.checkpoint;
      fresh = r.fresh;
      bytes = r.bytes;
      early = r.early;
      bases = r.bases;
    }

pub record RecorderKeeps (r : Inside) : Type 0 where
  pub head : IsHead r.present.hub.memory.hub.terms.head
  pub limit : r.present.hub.memory.hub.terms.limit ≡ MOST_STEPS
  pub keep : IsKeep r.keep
  pub recorder : IsRecorder (shown r)
  -- the lines of its checkpoint, those behind it, and those of exits for which no start keeps a line
  pub lines : FitLines r.present.hub.memory.hub.journal r.bytes
  pub bytes : r.bytes < CHAPTER_BYTES + MOST_LINE_BYTES
  pub text_before : IfSome (option_map hub_in r.before) FitsText
