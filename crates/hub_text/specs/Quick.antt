-- What the quick reading of a line finds: a spelling between two places of the bytes.
use Rattle.std.specs.Prelude.{◌≡◌, ◌≢◌, ◌≤◌, ◌<◌, ◌+◌, ℕ, List, [], ◌∷◌, ◌++◌, codes, decimal, length, drop, get_or, Bool, true, false, Ok}
use Rattle.std.specs.List.{AllByRecursion, list_all}
use Rattle.hub_base.specs.declared.case.Case.{Case}
use Rattle.hub_base.specs.declared.case.Case.TheVariants.{Send, Recv}
use Rattle.hub_base.specs.Entry.{Entry, Step}
use Rattle.hub_base.specs.declared.entry.Step.TheVariants.{Exit}
use Rattle.hub_base.specs.declared.head.Edition.{Edition}
use Rattle.hub_base.specs.declared.limits.TheConstants.{GREATEST_PID}
use Rattle.hub_base.specs.declared.value.Port.{Port}
use Rattle.hub_base.specs.Head.{has_value, has_case, is_of}
use Rattle.hub_base.specs.Lines.{line, step_fields, call, spelled, default_field}
use Rattle.hub_base.specs.Reading.{is_exit}
use Rattle.hub_base.specs.Text.{Fits, StepFits, CallFits, CaseFits}
use Rattle.hub_base.specs.declared.value.Value.{Value}
use Rattle.hub_base.specs.Value.{IsValue, value_field}
use Rattle.hub_text.specs.Writing.{spaced, spaced_cases}

-- the last byte is a newline, so behind every other byte there is one more
abbrev pub EndsLine : List ℕ → Type 0
EndsLine bytes = (i : ℕ) → i < length bytes → get_or bytes i 0 ≢ 10 → i + 1 < length bytes

-- this spelling stands from the one place to the other, and is not the last
pub record Stands (bytes : List ℕ) (start : ℕ) (spelling : List ℕ) (end : ℕ) : Type 0 where
  pub spelled : drop start bytes ≡ spelling ++ drop end bytes
  pub inside : end < length bytes

-- wherever the first number begins that ends at the one place, the second begins there too, and ends at the other
abbrev pub GoesOn : List ℕ → ℕ → ℕ → ℕ → ℕ → Type 0
GoesOn bytes n at m end = (place : ℕ) → Stands bytes place (decimal n) at → Stands bytes place (decimal m) end

-- a value stands there that a journal of this edition can have
pub record ValueStands (edition : Edition) (bytes : List ℕ) (start : ℕ) (v : Value) (end : ℕ) : Type 0 where
  pub stands : Stands bytes start (value_field v) end
  pub fits : IsValue v
  pub of_edition : has_value edition v ≡ true

-- the case sends on this port a value that stands there
pub record BytesStand (edition : Edition) (bytes : List ℕ) (start : ℕ) (port : Port) (c : Case) (end : ℕ) : Type 0 where
  pub value : Value
  pub is : c ≡ Send port value
  pub there : ValueStands edition bytes start value end

-- the port and the value of a case that sends stand there, with this mark between them
pub record SendStands (edition : Edition) (bytes : List ℕ) (start mark : ℕ) (c : Case) (end : ℕ) : Type 0 where
  pub port : Port
  pub value : Value
  pub is : c ≡ Send port value
  pub stands : Stands bytes start (decimal port.0 ++ mark ∷ value_field value) end
  pub fits : CaseFits c
  pub of_edition : has_case edition c ≡ true

-- the port of a case that receives stands there
pub record RecvStands (bytes : List ℕ) (start : ℕ) (c : Case) (end : ℕ) : Type 0 where
  pub port : Port
  pub is : c ≡ Recv port
  pub stands : Stands bytes start (decimal port.0) end
  pub fits : CaseFits c

-- this spelling of a case stands there
pub record CaseStands (edition : Edition) (bytes : List ℕ) (start : ℕ) (spelling : List ℕ) (c : Case) (end : ℕ) : Type 0 where
  pub stands : Stands bytes start spelling end
  pub fits : CaseFits c
  pub of_edition : has_case edition c ≡ true

-- cases of a select stand there
pub record CasesStand (edition : Edition) (bytes : List ℕ) (start : ℕ) (cs : List Case) (end : ℕ) : Type 0 where
  pub stands : Stands bytes start (spaced_cases cs) end
  pub fits : AllByRecursion CaseFits cs
  pub of_edition : list_all (has_case edition) cs ≡ true

-- the fields of a step that is no exit and that this edition has stand there, each behind a space
pub record StepStands (edition : Edition) (bytes : List ℕ) (start : ℕ) (step : Step) (end : ℕ) : Type 0 where
  pub stands : Stands bytes start (spaced (step_fields step)) end
  pub fits : StepFits step
  pub of_edition : is_of edition step ≡ true
  pub no_exit : is_exit step ≡ false

-- the number behind the word of a step stands there, which is the last of its fields
pub record NumberStands (edition : Edition) (bytes : List ℕ) (start : ℕ) (word : List ℕ) (step : Step) (end : ℕ) : Type 0 where
  pub number : ℕ
  pub is : step_fields step ≡ word ∷ decimal number ∷ []
  pub stands : Stands bytes start (decimal number) end
  pub fits : StepFits step
  pub of_edition : is_of edition step ≡ true
  pub no_exit : is_exit step ≡ false

-- the port and the capacity of a reopen stand there, which are the last of its fields
pub record ReopenStands (edition : Edition) (bytes : List ℕ) (start : ℕ) (step : Step) (end : ℕ) : Type 0 where
  pub port : ℕ
  pub cap : ℕ
  pub is : step_fields step ≡ codes "reopen" ∷ decimal port ∷ decimal cap ∷ []
  pub stands : Stands bytes start (decimal port ++ codes " " ++ decimal cap) end
  pub fits : StepFits step
  pub of_edition : is_of edition step ≡ true
  pub no_exit : is_exit step ≡ false

-- the fields of a select stand there, from its word on
pub record SelectStands (edition : Edition) (bytes : List ℕ) (start : ℕ) (step : Step) (end : ℕ) : Type 0 where
  pub cases : List Case
  pub default : Bool
  pub word : ℕ
  pub is : step ≡ call cases default word
  pub long : spelled cases default word ≡ Ok step
  pub stands : Stands bytes start (decimal word ++ spaced_cases cases ++ spaced (default_field default)) end
  pub fits : CallFits cases word
  pub of_edition : list_all (has_case edition) cases ≡ true

-- the bytes begin with the line of an entry that is no exit and that this edition has, and go on behind it
pub record Begins (edition : Edition) (bytes : List ℕ) (e : Entry) (end : ℕ) : Type 0 where
  pub spelled : bytes ≡ line e ++ drop end bytes
  pub inside : end ≤ length bytes
  pub fits : Fits edition e
  pub no_exit : is_exit e.step ≡ false

-- the bytes begin with the line of an exit, and go on behind it
pub record BeginsExit (bytes : List ℕ) (e : Entry) (end : ℕ) : Type 0 where
  pub spelled : bytes ≡ line e ++ drop end bytes
  pub inside : end ≤ length bytes
  pub pid_fits : e.pid.0 ≤ GREATEST_PID
  pub exit : e.step ≡ Exit
