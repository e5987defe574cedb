-- What the entries so far have led to, and how the next line goes on from there.
use Rattle.std.specs.Prelude.{◌≡◌, ℕ, false, List, [], ◌∷◌, ◌++◌, Option, None, Some, Ok, if◌then◌else◌}
use Rattle.std.specs.List.{flat_map}
use Rattle.hub_base.specs.Entry.{Entry}
use Rattle.hub_base.specs.declared.head.Head.{Head}
use Rattle.hub_base.specs.declared.read_fault.Kind.{Kind}
use Rattle.hub_base.specs.EventText.{event_line}
use Rattle.hub_base.specs.Lines.{pieces, read_fields}
use Rattle.hub_base.specs.Reading.{over, counted}
use Rattle.hub_base.specs.Runs.{state, moves}
use Rattle.hub_base.specs.Text.{fault_of_entry, steps_of}
use Rattle.hub_core.specs.Follows.{Follows}
use Rattle.hub_core.specs.Records.{MachineLists}

-- how many entries are no exits with this one, unless it is one too many
abbrev pub steps_after : ℕ → Entry → Option ℕ
steps_after steps e = if over steps e then None else Some (counted steps e)

-- the machine follows these entries, and those that are no exits are counted
pub record RunsTo (head : Head) (entries : List Entry) (machine : MachineLists) (steps : ℕ) : Type 0 where
  pub follows : Follows head entries machine
  pub counted : steps ≡ steps_of entries

-- the line is this entry's, and its events are said
pub record GoesOn (head : Head) (entries : List Entry) (body : List ℕ) (machine : MachineLists) (steps : ℕ) (old new : List ℕ) : Type 0 where
  pub entry : Entry
  pub read : read_fields head.edition (pieces 32 body) ≡ Ok entry
  pub fits : over (steps_of entries) entry ≡ false
  pub runs : RunsTo head (entries ++ entry ∷ []) machine steps
  pub said : new ≡ old ++ flat_map event_line (moves (state head entries) entry).events

-- so it is, or the line has this fault and nothing is said
abbrev pub Goes : Head → List Entry → List ℕ → MachineLists → ℕ → List ℕ → List ℕ → Option Kind → Type 0
Goes head entries body machine steps old new None = GoesOn head entries body machine steps old new
Goes head entries body machine steps old new (Some kind) =
    (fault_of_entry (steps_of entries) (read_fields head.edition (pieces 32 body)) ≡ Some kind) × (new ≡ old)
