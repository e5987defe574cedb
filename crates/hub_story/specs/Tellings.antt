-- What all that a journal tells is like: its events stand in the order of their steps, and grow by what comes by each.
use Rattle.std.specs.Prelude.{◌≡◌, ◌<◌, ◌+◌, ℕ, true, List, [], ◌++◌, filter, Some}
use Rattle.std.specs.List.{AllByRecursion}
use Rattle.hub_laws.specs.Replies.{is_parked}
use Rattle.hub_story.specs.declared.told.Told.{Told}
use Rattle.hub_story.specs.Levels.{came_by, told_by}
use Rattle.hub_story.specs.Outlines.{ends_late}
use Rattle.hub_story.specs.Stories.{IsFrom}
use Rattle.hub_story.specs.Told.{end_of}

-- all that a journal of so many entries tells
pub record IsTelling (count : ℕ) (all : List Told) : Type 0 where
  pub in_order : IsFrom 0 all
  pub none : told_by 0 all ≡ []
  pub grown : (place : ℕ) → place < count → told_by (place + 1) all ≡ told_by place all ++ came_by place all
  pub within : told_by count all ≡ all
  -- a call is parked by its own step
  pub parked : AllByRecursion (λ t. is_parked t.event.what ≡ true → t.asked ≡ t.by) all
  -- an entry that did not end by its own step has its end, if any, among the late ones
  pub late : (place : ℕ) → ((t : Told) → end_of all place ≡ Some t → place < t.by) → end_of (filter ends_late all) place ≡ end_of all place
