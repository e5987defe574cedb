-- Where what a function appends leads a reader of XML.
use Rattle.std.specs.Prelude.{◌≡◌, ℕ, ◌&&◌, Bool, true, false, List, [], ◌∷◌, ◌++◌, Option, None, Some, codes, Result, OnOk, if◌then◌else◌}
use Rattle.std.specs.Borrow.{Bor}
use Rattle.std.specs.Global.{Vec}
use Rattle.std.specs.Io.KnownBytes.{Appends}
use Rattle.std.specs.List.{list_all}
use Rattle.hub_replay.specs.Devices.{AppendsSome}
use Rattle.hub_picture.specs.declared.piece.Piece.{Piece}
use Rattle.hub_picture.specs.declared.piece.Piece.TheVariants.{Word, If}
use Rattle.hub_picture.specs.Xml.{IsBegun, Name, State, after, is_plain}
use Rattle.hub_picture.specs.Xml.State.{Inside, Start, Value}

-- one that stood at the first place before what was appended stands at the second behind it
abbrev pub Leads : Vec ℕ → Vec ℕ → State → State → Type 0
Leads old new from to = (s : State) → after s old.items ≡ from → after s new.items ≡ to

pub record Reads {E : Type 0} (old new : Vec ℕ) (from to : State) (result : Result (Unit {0}) E) : Type 0 where
  pub ok : OnOk result (Leads old new from to)

-- in any element: whole elements and plain text
abbrev pub Elements : {E : Type 0} → Vec ℕ → Vec ℕ → Result (Unit {0}) E → Type 0
Elements old new result = (name : Name) → (around : List Name) → Reads old new (Inside name around) (Inside name around) result

-- the same, and then the opening tag of this element
abbrev pub Opens : {E : Type 0} → Vec ℕ → Vec ℕ → Name → Result (Unit {0}) E → Type 0
Opens old new element result =
    (name : Name) → (around : List Name) → Reads old new (Inside name around) (Inside element (name ∷ around)) result

-- a text of whole elements and plain text
abbrev pub AreElements : List ℕ → Type 0
AreElements text = (name : Name) → (around : List Name) → after (Inside name around) text ≡ Inside name around

-- where plain text can stand: between tags, and in a value
abbrev pub takes_text : State → Bool
takes_text (Inside name around) = true
takes_text (Value tag) = true
takes_text s = false

abbrev pub IsPlain : List ℕ → Type 0
IsPlain text = list_all is_plain text ≡ true

-- plain text
pub record Plain {E : Type 0} (old new : Vec ℕ) (result : Result (Unit {0}) E) : Type 0 where
  pub at : (s : State) → takes_text s ≡ true → Reads old new s s result

-- a piece: a fixed word may have tags, and all else is plain text
abbrev pub WritesPiece : {E : Type 0} → Vec ℕ → Vec ℕ → Piece → Result (Unit {0}) E → Type 0
WritesPiece old new (Word bytes) result = (at : State) → Reads old new at (after at bytes.now) result
WritesPiece old new (If so bytes) result = IsPlain bytes.now → Plain old new result
WritesPiece old new piece result = Plain old new result

-- where it stands behind pieces, if plain text stands only where it can
abbrev pub behind_pieces : State → List Piece → Option State
behind_pieces s [] = Some s
behind_pieces s (Word bytes ∷ pieces) = behind_pieces (after s bytes.now) pieces
behind_pieces s (If so bytes ∷ pieces) =
    if takes_text s && list_all is_plain bytes.now then behind_pieces s pieces else None
behind_pieces s (piece ∷ pieces) = if takes_text s then behind_pieces s pieces else None

-- the same behind words, if plain text can stand behind each
abbrev pub behind_words : State → List (Bor (List ℕ)) → Option State
behind_words s [] = Some s
behind_words s (word ∷ words) = if takes_text (after s word.now) then behind_words (after s word.now) words else None

-- in the root
abbrev pub in_root : State
in_root = Inside (codes "svg") []

-- in this element of it
abbrev pub within_root : Name → State
within_root name = Inside name (codes "svg" ∷ [])

-- since the start bytes were written that lead it into the root, with a text that waits to be written
pub record Holds (start now : Option (List ℕ)) (text : List ℕ) : Type 0 where
  pub written : List ℕ
  pub appends : Appends start now written
  pub reads : after Start (written ++ text) ≡ in_root

-- if they did before, they do so now, or what was written begins a document
abbrev pub Goes : Option (List ℕ) → Option (List ℕ) → List ℕ → List ℕ → Type 0
Goes before after old new = (start : Option (List ℕ)) → Holds start before old → Holds start after new

abbrev pub Begins : Option (List ℕ) → Option (List ℕ) → List ℕ → Type 0
Begins before after old = (start : Option (List ℕ)) → Holds start before old → AppendsSome IsBegun start after
