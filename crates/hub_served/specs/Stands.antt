-- How a step is found to stand to the journal, where its process's steps are admitted and nothing has diverged.
use Rattle.std.specs.Prelude.{◌≡◌, ◌<◌, ◌≤◌, ◌+◌, ℕ, List, length, slice_get, None, Some, IfSome, Result, Ok, Err}
use Rattle.hub_base.specs.Entry.{Entry, Step}
use Rattle.hub_base.specs.declared.entry.Step.TheVariants.{Call}
use Rattle.hub_base.specs.declared.event.Event.{Event}
use Rattle.hub_core.specs.HubView.{Refuses}
use Rattle.hub_live.specs.Locked.{LockedView, ServesStep}
use Rattle.hub_served.specs.declared.follower.Stand.{Stand}
use Rattle.hub_served.specs.declared.follower.Stand.TheVariants.{Next, Early, Other, Over}
use Rattle.hub_served.specs.declared.not_made.NotMade.{NotMade}
use Rattle.hub_served.specs.declared.not_made.NotMade.TheVariants.{Refused}
use Rattle.hub_served.specs.Follow.{FollowKeeps, FollowView, made, with_locked, with_word}
use Rattle.hub_served.specs.Given.{GivenView, turn_from}

-- the choice word of a call; 0 for any other step
abbrev pub word_of : Step → ℕ
word_of (Call cases default word) = word
word_of other = 0

-- the journal has this entry at this place, with its own choice word or another
abbrev pub IsIn : List Entry → Entry → ℕ → Type 0
IsIn es e place = (word : ℕ) × (slice_get es place ≡ Some (with_word word e))

abbrev pub Stands : GivenView → Entry → Stand → Type 0
Stands g e (Next word) = slice_get g.entries g.made ≡ Some (with_word word e)
Stands g e Early =
    (g.made < length g.entries) × IfSome (turn_from e.pid.0 g.made g.entries) (λ place. (g.made < place) × IsIn g.entries e place)
Stands g e (Other number) =
    (place : ℕ) × (turn_from e.pid.0 g.made g.entries ≡ Some place) × (¬ IsIn g.entries e place) × (number ≡ place + 1)
Stands g e Over = length g.entries ≤ g.made

-- the journal that it follows, of which as much is made as the hub has made
abbrev pub given_of : FollowView → GivenView
given_of l = record { entries = l.given; made = made l }

-- what a hub that follows keeps; and this is its journal, as long as nothing has diverged
pub record Follows (l : FollowView) (given : GivenView) : Type 0 where
  pub keeps : FollowKeeps l
  pub in_turn : l.diverged ≡ None → given ≡ given_of l

-- the hub made the step or refused it
abbrev pub Passes : LockedView → Entry → LockedView → Result Event NotMade → Type 0
Passes old e new (Ok answer) = ServesStep old e new (Ok answer)
Passes old e new (Err (Refused f)) = Refuses old.hub e f × (new ≡ old)
Passes old e new (Err other) = ⊥

-- its hub made the step or refused it
pub record PassesGiven (old : FollowView) (e : Entry) (new : FollowView) (result : Result Event NotMade) : Type 0 where
  pub keeps : FollowKeeps old
  pub passes : Passes old.locked e new.locked result
  pub stays : new ≡ with_locked new.locked old
