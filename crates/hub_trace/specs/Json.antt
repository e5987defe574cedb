-- A reader of JSON, byte by byte. All that it takes is JSON. It does not take all of JSON: no escapes, no signs and exponents of
-- numbers, no `true`, `false` and `null`, and of texts only ASCII.
use Rattle.std.specs.Prelude.{◌≡◌, ℕ, ◌==◌, ◌&&◌, ◌||◌, not, nat_le, Bool, true, false, List, [], ◌∷◌, if◌then◌else◌}
use Rattle.std.specs.Char.{is_ascii_digit}
use Rattle.std.specs.List.{fold}

-- what is open
pub data Nest : Type 0 where
  Array : Nest
  Object : Nest

-- where the reader stands
pub data Place : Type 0 where
  -- before a value; and behind `[`, where the array may also end
  Value : Place
  First : Place
  -- behind `{`, before a key or the end of the object; behind a comma in it; in a key; and behind a key
  Opened : Place
  Next : Place
  Key : Place
  Named : Place
  -- in a string; in a whole number, behind a leading zero or not; behind a number's point, and in its fraction
  Text : Place
  Number : Bool → Place
  Point : Place
  Fraction : Place
  -- behind a value
  Behind : Place
  -- behind what is no JSON
  Broken : Place

-- there, with these arrays and objects open, the innermost first
pub record State : Type 0 where
  pub place : Place
  pub nest : List Nest

abbrev pub at : Place → List Nest → State
at place nest = record { place = place; nest = nest }

-- 34 is the quotation mark, 92 the backslash, 32 the space and 10 the newline
abbrev pub is_text : ℕ → Bool
is_text c = nat_le 32 c && (nat_le c 126 && not ((c == 34) || (c == 92)))

abbrev pub is_space : ℕ → Bool
is_space c = (c == 32) || (c == 10)

-- a bracket that ends the innermost array; a brace that ends the innermost object; a comma
abbrev pub array_ends : List Nest → State
array_ends (Array ∷ nest) = at Behind nest
array_ends other = at Broken other

abbrev pub object_ends : List Nest → State
object_ends (Object ∷ nest) = at Behind nest
object_ends other = at Broken other

abbrev pub more : List Nest → State
more [] = at Broken []
more (Array ∷ nest) = at Value (Array ∷ nest)
more (Object ∷ nest) = at Next (Object ∷ nest)

-- a byte where a value has to begin: `[`, `{`, a quotation mark or a digit
abbrev pub begins : List Nest → ℕ → State
begins nest c =
    if c == 91 then at First (Array ∷ nest) else if c == 123 then at Opened (Object ∷ nest)
    else if c == 34 then at Text nest else if is_ascii_digit c then at (Number (not (c == 48))) nest else at Broken nest

-- a byte behind a value: a comma, `]` or `}`
abbrev pub behind : List Nest → ℕ → State
behind nest c =
    if is_space c then at Behind nest else if c == 44 then more nest
    else if c == 93 then array_ends nest else if c == 125 then object_ends nest else at Broken nest

abbrev pub by : Place → List Nest → ℕ → State
by Value nest c = if is_space c then at Value nest else begins nest c
by First nest c = if is_space c then at First nest else if c == 93 then array_ends nest else begins nest c
by Opened nest c = if is_space c then at Opened nest else if c == 34 then at Key nest else if c == 125 then object_ends nest else at Broken nest
by Next nest c = if is_space c then at Next nest else if c == 34 then at Key nest else at Broken nest
by Key nest c = if c == 34 then at Named nest else if is_text c then at Key nest else at Broken nest
by Named nest c = if is_space c then at Named nest else if c == 58 then at Value nest else at Broken nest
by Text nest c = if c == 34 then at Behind nest else if is_text c then at Text nest else at Broken nest
by (Number many) nest c =
    if is_ascii_digit c then (if many then at (Number true) nest else at Broken nest)
    else if c == 46 then at Point nest else behind nest c
by Point nest c = if is_ascii_digit c then at Fraction nest else at Broken nest
by Fraction nest c = if is_ascii_digit c then at Fraction nest else behind nest c
by Behind nest c = behind nest c
by Broken nest c = at Broken nest

-- one byte, and many
abbrev pub step : State → ℕ → State
step s c = by s.place s.nest c

abbrev pub after : State → List ℕ → State
after s text = fold step s text

abbrev pub start : State
start = at Value []

abbrev pub is_broken : Place → Bool
is_broken Broken = true
is_broken other = false

-- nothing in it is no JSON
abbrev pub IsBegun : List ℕ → Type 0
IsBegun text = is_broken (after start text).place ≡ false

-- one whole value
abbrev pub IsJson : List ℕ → Type 0
IsJson text = after start text ≡ at Behind []
