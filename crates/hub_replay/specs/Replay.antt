-- What a replay does to the bytes of its source and of its sink, where those tell them.
-- What a journal's text is and what a hub does are hub_base's; nothing here says how either is computed.
use Rattle.std.specs.Prelude.{◌≡◌, ℕ, ◌≤◌, List, length, Option}
use Rattle.std.specs.List.{flat_map}
use Rattle.std.specs.Io.KnownBytes.{Consumes, IsAtEnd}
use Rattle.hub_base.specs.declared.head.Head.{Head}
use Rattle.hub_base.specs.Entry.{Entry}
use Rattle.hub_base.specs.declared.read_fault.ReadFault.{ReadFault}
use Rattle.hub_base.specs.declared.read_fault.ReadFault.TheVariants as read
use Rattle.hub_base.specs.declared.read_fault.TextFault.{TextFault}
use Rattle.hub_base.specs.declared.limits.TheConstants.{MOST_BYTES}
use Rattle.hub_base.specs.EventText.{event_line}
use Rattle.hub_base.specs.Runs.{events}
use Rattle.hub_base.specs.Text.{IsText, IsFaulty}
use Rattle.hub_replay.specs.declared.fault.SourceFault.{SourceFault}
use Rattle.hub_replay.specs.declared.fault.SourceFault.TheVariants as source
use Rattle.hub_replay.specs.declared.fault.ReplayFault.{ReplayFault}
use Rattle.hub_replay.specs.declared.fault.ReplayFault.TheVariants as replay

-- the lines of the events that follow these entries, in a hub with this head
abbrev pub event_lines : Head → List Entry → List ℕ
event_lines head entries = flat_map event_line (events head entries)

-- the first bytes are a journal's text, and the others its event text
pub record IsEventText (journal text : List ℕ) : Type 0 where
  pub head : Head
  pub entries : List Entry
  pub spelled : IsText journal head entries
  pub lines : text ≡ event_lines head entries

-- these bytes were read: all that there are, or more than a journal may have
pub record ReadsWhole (old new : Option (List ℕ)) (bytes : List ℕ) : Type 0 where
  pub consumed : Consumes old new bytes
  pub end : length bytes ≤ MOST_BYTES → IsAtEnd new

-- a journal was read, and of its event text this holds: that it was written whole and nothing else, or that a
-- beginning of it was
pub record Replays (unread left : Option (List ℕ)) (Writes : List ℕ → Type 0) : Type 0 where
  pub journal : List ℕ
  pub text : List ℕ
  pub read : ReadsWhole unread left journal
  pub is : IsEventText journal text
  pub written : Writes text

-- what was read has this as its first fault
pub record ReadsFaulty (unread left : Option (List ℕ)) (fault : TextFault) : Type 0 where
  pub bytes : List ℕ
  pub read : ReadsWhole unread left bytes
  pub faulty : IsFaulty bytes fault.line fault.kind

-- why these bytes have no event text: their first fault, or memory
abbrev pub HasNone : List ℕ → ReplayFault → Type 0
HasNone bytes (replay.Text fault) = IsFaulty bytes fault.line fault.kind
HasNone bytes replay.Read = ⊥
HasNone bytes replay.Write = ⊥
HasNone bytes replay.NoMemory = Unit {0}

-- what a source that gave no bytes is to a replay
abbrev pub replay_fault : SourceFault → ReplayFault
replay_fault source.Read = replay.Read
replay_fault source.NoMemory = replay.NoMemory

-- and what text that was not read is
abbrev pub fault_of_read : ReadFault → ReplayFault
fault_of_read (read.Text fault) = replay.Text fault
fault_of_read read.NoMemory = replay.NoMemory
