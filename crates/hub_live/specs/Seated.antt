-- Seats by their fields, and what lies under a hub's lock.
use Rattle.std.specs.Prelude.{◌≡◌, ℕ, ◌+◌, ◌<◌, ◌≤◌, [], Option, Some, None}
use Rattle.atomic_table.specs.Seated.{TableId}
use Rattle.atomic_table.specs.declared.shared.Seat.{Seat}
use Rattle.hub_base.specs.declared.value.Pid.{Pid}
use Rattle.hub_base.specs.declared.limits.TheConstants.{MOST_STEPS}
use Rattle.hub_base.specs.Text.{steps_of}
use Rattle.hub_core.specs.HubView.{HubView}
use Rattle.hub_core.specs.declared.terms.Terms.{Terms}
use Rattle.hub_live.specs.declared.rule.View.{View}
use Rattle.hub_live.specs.Locked.{LockedView}
use Rattle.hub_live.specs.Name.{Name, name_of, no_name}
use Rattle.hub_live.specs.Rule.{IsHistory}
use Rattle.hub_live.specs.Named.{IsTableOf, IsToken}
use Rattle.hub_live.specs.SeatView.{SeatView}

-- what contracts see of a seat, by its seat of the table
abbrev pub seat_of : Pid → Option (Seat (Unit {0}) View) → SeatView
seat_of pid None = record { hub = no_name; pid = pid; seen = [] }
seat_of pid (Some t) =
    record { hub = name_of t.table_id t.me.0.terms; pid = pid; seen = t.me.0.seen }

-- the seat of a process, joined to no other
pub record IsAlone (pid : Pid) (t : Seat (Unit {0}) View) : Type 0 where
  pub free : t.me.1 ≡ []
  pub number : t.me.0.number ≡ Some (pid.0 + 1)
  pub joined : t.me.0.joined ≡ None
  pub below : pid.0 < t.me.0.terms.head.procs
  pub history : IsHistory t.me.0.terms t.me.0.seen

abbrev pub IsSeated : Pid → Option (Seat (Unit {0}) View) → Type 0
IsSeated pid None = ⊥
IsSeated pid (Some t) = IsAlone pid t

-- a hub that was opened so
pub record IsHub (t : Terms) (h : HubView) : Type 0 where
  pub terms : h.terms ≡ t
  pub most : t.limit ≤ MOST_STEPS
  pub history : IsHistory t h.journal
  pub within : steps_of h.journal ≤ t.limit

-- what lies under the lock: the hub's own seat, joined to no other, has seen the hub's whole
-- journal
pub record IsDesk (name : Name) (l : LockedView) (t : Seat (Unit {0}) View) : Type 0 where
  pub token : IsToken name t
  pub number : t.me.0.number ≡ Some 0
  pub joined : t.me.0.joined ≡ None
  pub terms : t.me.0.terms ≡ name.terms
  pub seen : t.me.0.seen ≡ l.hub.journal
  pub hub : IsHub name.terms l.hub

-- a hub that has no name yet: the name that it can have, and what is to lie under its lock
pub record BlankView : Type 0 where
  pub name : Name
  pub locked : LockedView

-- what a hub that has no name yet is made of; it has a parker for each process
pub record IsBlank
    (table : TableId) (terms : Terms) (l : LockedView) (t : Seat (Unit {0}) View) (count : ℕ) :
    Type 0 where
  pub made : IsTableOf (name_of table terms) table terms
  pub desk : IsDesk (name_of table terms) l t
  pub wakers : count ≡ terms.head.procs
