-- The bytes of fields and of cases as the writers append them, when they fit, and what a writer leaves.
use Rattle.std.specs.Prelude.{◌≡◌, ◌≤◌, ◌+◌, ◌/◌, ◌%◌, ℕ, List, [], ◌∷◌, ◌++◌, codes, length, take, vec_len, Result, OnOk, OnErr, IsOk}
use Rattle.std.specs.Global.{Vec}
use Rattle.std.specs.Vec.{vec_capacity}
use Rattle.hub_base.specs.declared.case.Case.{Case}
use Rattle.hub_base.specs.Lines.{case_field}

-- fields, each behind a space
abbrev pub spaced : List (List ℕ) → List ℕ
spaced [] = []
spaced (f ∷ fs) = codes " " ++ f ++ spaced fs

-- case fields, each behind a space
abbrev pub spaced_cases : List Case → List ℕ
spaced_cases [] = []
spaced_cases (c ∷ cs) = codes " " ++ case_field c ++ spaced_cases cs

-- the bytes go behind those that are there without a growth
abbrev pub HasRoomFor : Vec ℕ → List ℕ → Type 0
HasRoomFor out bytes = vec_len out + length bytes ≤ vec_capacity out

-- the text is appended, or a part where a growth is refused; none is asked for where there is room
pub record Appends {E : Type 0} (old new : Vec ℕ) (text : List ℕ) (result : Result (Unit {0}) E) : Type 0 where
  pub ok : OnOk result (new.items ≡ old.items ++ text)
  pub err : OnErr result ((rest : List ℕ) × (new.items ≡ old.items ++ rest))
  pub capacity : vec_capacity old ≤ vec_capacity new
  pub succeeds : HasRoomFor old text → IsOk result

-- the two digits of a number below 100
abbrev pub pair : ℕ → List ℕ
pair n = (48 + n / 10) ∷ (48 + n % 10) ∷ []

-- the four digits of a number below 10,000
abbrev pub four : ℕ → List ℕ
four n = pair (n / 100) ++ pair (n % 100)

-- the text is put at this place, behind the bytes before it, and ends so many bytes on, or fewer
pub record Puts (old new : List ℕ) (at : ℕ) (text : List ℕ) (most end : ℕ) : Type 0 where
  pub put : take end new ≡ take at old ++ text
  pub within : end ≤ at + most
