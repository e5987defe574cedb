-- What a value is. Only texts, and the functions that make a value and tell what it is, look inside it.
use Rattle.std.specs.Prelude.{ℕ, ◌≡◌, ◌∷◌, List, [], decimal, Option, Some, None}
use Rattle.hub_base.specs.declared.value.Value.{Value}
use Rattle.hub_base.specs.Content.{Content, IsContent, said, form_of, places_of, sayable, sayable-small, stored-so}
use Rattle.hub_base.specs.Content.Content.{Num, Bytes}
use Rattle.hex.specs.Hex.{encode_lower}

-- what this value says
abbrev pub content : Value → Content
content v = said v.form v.bytes

-- the one value that says this, where one can
unfoldable pub saying : Content → Value
saying c = record {
  form = form_of (sayable c);
  bytes = places_of (sayable c);
  stored = stored-so (sayable c) (sayable-small c);
}

-- the value that is this number
abbrev pub value_of : ℕ → Value
value_of number = saying (Num number)

-- the value that is these bytes
abbrev pub bytes_of : List ℕ → Value
bytes_of bytes = saying (Bytes bytes)

-- a value says what can be said, and is the one that does
pub record IsValue (v : Value) : Type 0 where
  pub fits : IsContent (content v)
  pub one : saying (content v) ≡ v

-- the number that is said
abbrev pub number_in : Content → Option ℕ
number_in (Num n) = Some n
number_in (Bytes bs) = None

-- the bytes that are said; a number has none
abbrev pub bytes_in : Content → List ℕ
bytes_in (Num n) = []
bytes_in (Bytes bs) = bs

-- 35 is the mark `#`, and each byte is two hexadecimal digits in lower case
abbrev pub field_of : Content → List ℕ
field_of (Num n) = decimal n
field_of (Bytes bs) = 35 ∷ encode_lower bs

-- the field that spells a value
abbrev pub value_field : Value → List ℕ
value_field v = field_of (content v)
