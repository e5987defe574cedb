-- What the program's status says of what it was asked, and of a conversation.
use Rattle.std.specs.Prelude.{◌⊎◌, ℕ, List, Option}
use Rattle.hub_replay.specs.declared.fault.ReplayFault.{ReplayFault}
use Rattle.hub_replay.specs.declared.fault.ReplayFault.TheVariants as replay
use Rattle.hub_replay.specs.Serve.{HasNamed, HasBegun, HasStopped}
use Rattle.hub_replay.specs.Talks.{HasAnswered}
use Rattle.chanhub_tool.specs.declared.asked.Asked.{Asked}
use Rattle.chanhub_tool.specs.declared.fault.StoryFault.{StoryFault}
use Rattle.chanhub_tool.specs.declared.fault.StoryFault.TheVariants as fault
use Rattle.chanhub_tool.specs.Explains.{ReadsNone}

-- why not all was explained; nothing was written then, but for a beginning where a write failed, or memory was refused
abbrev pub HasRefused : Asked → (unread left : Option (List ℕ)) → (Unwritten FailedRead FailedWrite Unfailed Begun : Type 0) → StoryFault → Type 0
HasRefused asked unread left Unwritten FailedRead FailedWrite Unfailed Begun (fault.Replay replay.Read) = FailedRead × Unwritten
HasRefused asked unread left Unwritten FailedRead FailedWrite Unfailed Begun (fault.Replay replay.Write) = FailedWrite × Begun
HasRefused asked unread left Unwritten FailedRead FailedWrite Unfailed Begun (fault.Replay replay.NoMemory) = Unwritten ⊎ (Unfailed × Begun)
HasRefused asked unread left Unwritten FailedRead FailedWrite Unfailed Begun other = ReadsNone asked unread left other × Unwritten

-- why a conversation ended early, and what was said by then
abbrev pub HasEnded : (Heard Said : List ℕ → Type 0) (Ended FailedRead FailedWrite : Type 0) → ReplayFault → Type 0
HasEnded Heard Said Ended FailedRead FailedWrite (replay.Text fault) = HasNamed Heard Said Ended fault
HasEnded Heard Said Ended FailedRead FailedWrite replay.Read = FailedRead × HasAnswered Heard Said
HasEnded Heard Said Ended FailedRead FailedWrite replay.Write = FailedWrite × HasBegun Heard Said
HasEnded Heard Said Ended FailedRead FailedWrite replay.NoMemory = HasStopped Heard Said
