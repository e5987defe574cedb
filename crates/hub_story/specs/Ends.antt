-- How the entries of a journal ended, kept by their places.
use Rattle.std.specs.Prelude.{◌≡◌, ◌<◌, ℕ, ◌&&◌, ◌||◌, Bool, not, List}
use Rattle.std.specs.Prelude.{length, Option, None, Some, is_some, slice_get, slice_index_or, slice_set, if◌then◌else◌}
use Rattle.hub_laws.specs.Replies.{is_parked}
use Rattle.hub_story.specs.declared.story.Story.{Story}
use Rattle.hub_story.specs.declared.told.Told.{Told}
use Rattle.hub_story.specs.Told.{end_of}

-- what is told at such a place
abbrev pub told_at : List Told → Option ℕ → Option Told
told_at all None = None
told_at all (Some k) = slice_get all k

-- how the entry at this place ended
abbrev pub ended_at : Story → ℕ → Option Told
ended_at s place = told_at s.told.items (slice_index_or s.ends.items place None)

-- of so many entries the places of the ends that are told
pub record AreEnds (all : List Told) (count : ℕ) (ends : List (Option ℕ)) : Type 0 where
  pub within : (place k : ℕ) → slice_index_or ends place None ≡ Some k → k < length all
  pub length : length ends ≡ count
  pub each : (place : ℕ) → place < count → told_at all (slice_index_or ends place None) ≡ end_of all place

-- with one event more, which stands at this place
abbrev pub with_end : List (Option ℕ) → ℕ → Told → List (Option ℕ)
with_end ends k t =
    if is_parked t.event.what || is_some (slice_index_or ends t.asked None) then ends
    else slice_set ends t.asked (Some k)

-- the call was parked, and no end of it has a place
abbrev pub waits_by_place : List (Option ℕ) → Told → Bool
waits_by_place ends t = is_parked t.event.what && not (is_some (slice_index_or ends t.asked None))
