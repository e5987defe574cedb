-- Where a walk along a journal stands.
use Rattle.std.specs.Prelude.{◌≡◌, ◌≤◌, ℕ, length, take}
use Rattle.hub_base.specs.Journal.{JournalView}
use Rattle.hub_base.specs.State.{opening}
use Rattle.hub_base.specs.Values.{turns_after}
use Rattle.hub_core.specs.Follows.{Follows}
use Rattle.hub_story.specs.declared.last_calls.TheConstants.{PID_NUMBERS}
use Rattle.hub_story.specs.declared.walk.Walk.{Walk}
use Rattle.hub_story.specs.LastCalls.{AreLast}

-- behind the first so many entries: the machine follows them, and the table tells the last calls
pub record IsAt (j : JournalView) (count : ℕ) (w : Walk) : Type 0 where
  pub follows : Follows j.head (take count j.entries) w.machine
  pub steps : w.machine.steps ≤ count
  pub places : length w.calls ≡ PID_NUMBERS
  pub calls : AreLast w.calls (turns_after (opening j.head) (take count j.entries))
