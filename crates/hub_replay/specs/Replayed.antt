-- What the entries that were read so far have led to.
use Rattle.std.specs.Prelude.{◌≡◌, ℕ, ◌-◌, ◌*◌, ◌≤◌, ◌<◌, ◌^◌, Bool, true, false, List, ◌++◌, length}
use Rattle.hub_base.specs.Entry.{Entry}
use Rattle.hub_base.specs.declared.limits.TheConstants.{MOST_EVENTS}
use Rattle.hub_text.specs.Reader.{ReaderView}
use Rattle.hub_base.specs.Reading.{read_text, behind}
use Rattle.hub_base.specs.Runs.{events}
use Rattle.hub_core.specs.Follows.{Follows}
use Rattle.hub_core.specs.Records.{MachineLists}
use Rattle.hub_replay.specs.Replay.{event_lines, IsEventText}
use Rattle.hub_replay.specs.Verify.{newlines_in}

-- there are entries whose text was read so far; the machine follows them, and this is their event text
pub record Replayed (bytes text : List ℕ) (reader : ReaderView) (machine : MachineLists) : Type 0 where
  pub entries : List Entry
  pub said : read_text bytes ≡ behind entries reader.left
  pub follows : Follows reader.head entries machine
  pub told : text ≡ event_lines reader.head entries
  pub few : length (events reader.head entries) ≤ MOST_EVENTS * length entries

-- the bytes are a journal's text, and this is its event text, whose lines can be counted
pub record ReplayedWhole (bytes text : List ℕ) : Type 0 where
  pub is : IsEventText bytes text
  pub lines : newlines_in text < 2 ^ 32 - 1

-- more steps were made, and their events were written behind the lines that were there
pub record ReplayedMore (bytes text : List ℕ) (reader : ReaderView) (machine : MachineLists) (old new : List ℕ) : Type 0 where
  pub more : List ℕ
  pub written : new ≡ old ++ more
  pub replayed : Replayed bytes (text ++ more) reader machine

-- the last steps were made, if there were any, and their events were written
pub record ReplayedRest (bytes text old new : List ℕ) : Type 0 where
  pub more : List ℕ
  pub written : new ≡ old ++ more
  pub whole : ReplayedWhole bytes (text ++ more)

-- there may be steps still; or there are none
abbrev pub GoesOn : List ℕ → List ℕ → ReaderView → MachineLists → List ℕ → List ℕ → Bool → Type 0
GoesOn bytes text reader machine old new true = ReplayedMore bytes text reader machine old new
GoesOn bytes text reader machine old new false = ReplayedRest bytes text old new
