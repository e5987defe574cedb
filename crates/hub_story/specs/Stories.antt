-- What the story of a journal tells.
use Rattle.std.specs.Prelude.{◌≡◌, ◌≤◌, ℕ, List, [], ◌∷◌, length, map}
use Rattle.hub_base.specs.Journal.{JournalView}
use Rattle.hub_base.specs.Runs.{state}
use Rattle.hub_story.specs.declared.story.Story.{Story}
use Rattle.hub_story.specs.declared.told.Told.{Told}
use Rattle.hub_story.specs.Told.{told}
use Rattle.hub_story.specs.Ends.{AreEnds}
use Rattle.hub_story.specs.Waiting.{still_waiting, open_call}

-- the steps by which they came never go back, and begin at this one or later
abbrev pub IsFrom : ℕ → List Told → Type 0
IsFrom step [] = Unit {0}
IsFrom step (t ∷ ts) = (step ≤ t.by) × IsFrom t.by ts

-- the story tells these things of the journal
pub record IsStoryOf (given : JournalView) (s : Story) : Type 0 where
  pub told : s.told.items ≡ told given.head given.entries
  pub in_order : IsFrom 0 s.told.items
  pub ends : AreEnds s.told.items (length given.entries) s.ends.items
  pub waiting : s.waiting.items ≡ still_waiting s.told.items
  -- they are those that wait by the state
  pub calls : map (open_call given.entries) s.waiting.items ≡ (state given.head given.entries).parked
