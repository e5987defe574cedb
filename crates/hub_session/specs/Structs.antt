-- What the structs of C say that come, and the struct that says a value.
use Rattle.std.specs.Prelude.{ℕ, ◌==◌, ◌&&◌, ◌||◌, nat_le, not, Bool, false, List, [], ◌∷◌, length, take, replicate, map, Option, None, Some, if◌then◌else◌}
use Rattle.std.specs.List.{list_all}
use Rattle.hub_base.specs.declared.case.Case.{Case}
use Rattle.hub_base.specs.declared.case.Case.TheVariants as case
use Rattle.hub_base.specs.declared.limits.TheConstants.{CASE_PLACES, MOST_VALUE_BYTES}
use Rattle.hub_base.specs.declared.value.Value.{Value}
use Rattle.hub_base.specs.Content.{Content, padded}
use Rattle.hub_base.specs.Content.Content.{Num, Bytes}
use Rattle.hub_base.specs.declared.head.Edition.{Edition}
use Rattle.hub_base.specs.Entry.{Entry}
use Rattle.hub_base.specs.Head.{has_case}
use Rattle.hub_base.specs.Notation.{port, r, select}
use Rattle.hub_base.specs.Value.{bytes_of, content, value_of}
use Rattle.hub_session.specs.declared.structs.CaseC.{CaseC}
use Rattle.hub_session.specs.declared.structs.ValueC.{ValueC}

-- a truth that comes from C: any number but 0 is true
abbrev pub is_true : ℕ → Bool
is_true flag = not (flag == 0)

-- ---- values
-- a value has no more bytes than there are places for
abbrev pub is_value : ValueC → Bool
is_value v = nat_le v.length MOST_VALUE_BYTES

-- the value that a struct says
abbrev pub value_in : ValueC → Value
value_in v = if is_true v.is_bytes then bytes_of (take v.length v.bytes) else value_of v.number

-- the struct that says this
abbrev pub told_as : Content → ValueC
told_as (Num n) = record { number = n; is_bytes = 0; length = 0; bytes = replicate MOST_VALUE_BYTES 0 }
told_as (Bytes bs) = record { number = 0; is_bytes = 1; length = length bs; bytes = padded bs }

-- the struct that says a value
abbrev pub value_told : Value → ValueC
value_told v = told_as (content v)

-- ---- cases
-- the value of a receive is not looked at
abbrev pub is_case : CaseC → Bool
is_case c = not (is_true c.sends) || is_value c.value

-- the case that a struct says
abbrev pub case_in : CaseC → Case
case_in c = if is_true c.sends then case.Send (port c.port) (value_in c.value) else r c.port

-- no more cases than an entry has places for, and each of them a case
abbrev pub are_cases : List CaseC → Bool
are_cases cases = nat_le (length cases) CASE_PLACES && list_all is_case cases

-- it is a case, and one that a journal of this edition can have
abbrev pub suits : Edition → CaseC → Bool
suits edition c = is_case c && has_case edition (case_in c)

-- the cases of one call, and ones that a journal of this edition can have
abbrev pub are_cases_of : Edition → List CaseC → Bool
are_cases_of edition cases = nat_le (length cases) CASE_PLACES && list_all (suits edition) cases

-- ---- entries
-- a call of these cases, where they are some
abbrev pub call_of : ℕ → List CaseC → ℕ → ℕ → Option Entry
call_of pid cases default word =
    if are_cases cases then Some (select pid word (map case_in cases) (is_true default)) else None

-- a send of this value on a port, where it is one
abbrev pub send_of : ℕ → ℕ → ValueC → Option Entry
send_of pid p v = if is_value v then Some (select pid 0 (case.Send (port p) (value_in v) ∷ []) false) else None
