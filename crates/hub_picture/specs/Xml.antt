-- A strict reader of XML, byte by byte. What it takes is well-formed XML, of elements, attributes and plain text alone:
-- it knows no comment, no entity and no declaration.
use Rattle.std.specs.Prelude.{◌≡◌, ℕ, ◌==◌, ◌&&◌, ◌||◌, nat_le, Bool, true, false, not, bytes_eq, List, [], ◌∷◌, ◌++◌, if◌then◌else◌}
use Rattle.std.specs.Char.{is_ascii_alphabetic}
use Rattle.std.specs.List.{list_any}

abbrev pub Name : Type 0
Name = List ℕ

-- an opening tag: its element, those that are open around it, the innermost first, and what attributes it has so far
pub record Tag : Type 0 where
  pub element : Name
  pub around : List Name
  pub attributes : List Name

-- where the reader stands
pub data State : Type 0 where
  Broken : State  -- behind what is not well-formed
  Start : State  -- before all
  Open : Name → List Name → State  -- behind `<`, and so much of the name of an element
  Key : Name → Tag → State  -- in a tag, behind so much of the name of an attribute
  Equals : Tag → State  -- behind its `=`
  Value : Tag → State  -- between its quotation marks
  Valued : Tag → State  -- behind them
  Empty : List Name → State  -- behind the `/` of an element that has nothing in it
  Close : Name → List Name → State  -- in a closing tag, of whose name so much is still to come
  Inside : Name → List Name → State  -- in an element, between tags
  End : State  -- behind the root

-- a newline, or a character of ASCII that is none of `<`, `>`, `&` and the quotation mark
abbrev pub is_plain : ℕ → Bool
is_plain c = (c == 10) || (nat_le 32 c && nat_le c 126 && not ((c == 60) || (c == 62) || (c == 38) || (c == 34)))

-- behind a whole element, within those that are open around it
abbrev pub behind : List Name → State
behind [] = End
behind (name ∷ around) = Inside name around

-- a space, `>` or `/` behind the name of a tag, or behind a value
abbrev pub go_on : Tag → ℕ → State
go_on tag c =
    if c == 32 then Key [] tag
    else if c == 62 then Inside tag.element tag.around
    else if c == 47 then Empty tag.around
    else Broken

-- `/` right behind `<` closes the innermost element
abbrev pub close : List Name → State
close [] = Broken
close (name ∷ around) = Close name around

-- `=` behind the name of an attribute, which the tag must not have yet
abbrev pub equals : Name → Tag → State
equals key tag =
    if list_any (bytes_eq key) tag.attributes then Broken
    else Equals (record { element = tag.element; around = tag.around; attributes = key ∷ tag.attributes })

-- one byte more
abbrev pub step : State → ℕ → State
step Broken c = Broken
step Start c = if c == 60 then Open [] [] else Broken
step (Open [] around) c = if is_ascii_alphabetic c then Open (c ∷ []) around else if c == 47 then close around else Broken
step (Open (x ∷ xs) around) c =
    if is_ascii_alphabetic c then Open (x ∷ xs ++ c ∷ []) around
    else go_on (record { element = x ∷ xs; around = around; attributes = [] }) c
step (Key [] tag) c = if is_ascii_alphabetic c then Key (c ∷ []) tag else Broken
step (Key (x ∷ xs) tag) c = if is_ascii_alphabetic c then Key (x ∷ xs ++ c ∷ []) tag else if c == 61 then equals (x ∷ xs) tag else Broken
step (Equals tag) c = if c == 34 then Value tag else Broken
step (Value tag) c = if c == 34 then Valued tag else if is_plain c then Value tag else Broken
step (Valued tag) c = go_on tag c
step (Empty around) c = if c == 62 then behind around else Broken
step (Close [] around) c = if c == 62 then behind around else Broken
step (Close (x ∷ xs) around) c = if c == x then Close xs around else Broken
step (Inside name around) c =
    if c == 60 then Open [] (name ∷ around) else if is_plain c then Inside name around else Broken
step End c = if c == 10 then End else Broken

-- where it stands behind these bytes
abbrev pub after : State → List ℕ → State
after s [] = s
after s (c ∷ cs) = after (step s c) cs

-- a whole document: one element, and all in it is closed
abbrev pub IsDocument : List ℕ → Type 0
IsDocument text = after Start text ≡ End

abbrev pub is_broken : State → Bool
is_broken Broken = true
is_broken s = false

-- what can be a beginning of one
abbrev pub IsBegun : List ℕ → Type 0
IsBegun text = is_broken (after Start text) ≡ false
