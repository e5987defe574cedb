-- What contracts see of cases that are kept in 16 bytes each, and what is kept of one.
use Rattle.std.specs.Prelude.{◌≤◌, ◌<◌, ◌+◌, ℕ, List, length, map, slice_get, unwrap_or}
use Rattle.hub_base.specs.declared.case.Case.{Case}
use Rattle.hub_base.specs.declared.case.Case.TheVariants.{Send, Recv}
use Rattle.hub_base.specs.declared.value.Value.{Value}
use Rattle.hub_base.specs.Value.{value_of}
use Rattle.hub_core.specs.declared.case_list.ShortCase.{ShortCase}
use Rattle.hub_core.specs.declared.case_list.ShortCase.TheVariants as short

-- cases in order
pub record CaseListView : Type 0 where
  pub items : List Case
  -- how many there can be before their list has to grow
  pub room : ℕ
  -- how many of them send bytes, which stand beside, and how many such there can be before those have to grow
  pub beside : ℕ
  pub beside_room : ℕ

-- there is room for so many more, whatever they send
pub record HasCaseRoom (list : CaseListView) (more : ℕ) : Type 0 where
  pub cases : length list.items + more ≤ list.room
  pub beside : list.beside + more ≤ list.beside_room

-- there is room for the cases of another in place of its own
pub record HasCaseRoomFor (list other : CaseListView) : Type 0 where
  pub cases : length other.items ≤ list.room
  pub beside : other.beside ≤ list.beside_room

-- ---- what is kept of a case

-- the case again; bytes that it sends stand at a place of these
abbrev pub case_of : List Value → ShortCase → Case
case_of values (short.Recv p) = Recv p
case_of values (short.Number p number) = Send p (value_of number)
case_of values (short.Bytes p place) = Send p (unwrap_or (slice_get values place) (value_of 0))

-- the cases again
abbrev pub cases_kept : List ShortCase → List Value → List Case
cases_kept kept values = map (case_of values) kept

-- its bytes, if it sends some, stand before that place
abbrev pub StandsBelow : ℕ → ShortCase → Type 0
StandsBelow n (short.Recv p) = Unit {0}
StandsBelow n (short.Number p number) = Unit {0}
StandsBelow n (short.Bytes p place) = place < n
