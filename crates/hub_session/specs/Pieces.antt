-- The pieces of a journal's text, and what a reading of some of them comes to.
use Rattle.std.specs.Prelude.{◌≡◌, ◌≤◌, ◌<◌, ◌⊎◌, ◌++◌, ℕ, zero, suc, Bool, true, false, List, [], ◌∷◌, length, map, take, drop, Option, None, Some}
use Rattle.std.specs.List.{flat_map}
use Rattle.std.specs.Option.{option_map}
use Rattle.hub_base.specs.declared.head.Head.{Head}
use Rattle.hub_base.specs.Entry.{Entry}
use Rattle.hub_base.specs.Head.{AreOf}
use Rattle.hub_base.specs.Journal.{JournalView}
use Rattle.hub_base.specs.Lines.{line}
use Rattle.hub_base.specs.Reading.{head_lines, text}
use Rattle.hub_laws.specs.Journals.{IsLegal}
use Rattle.hub_session.specs.declared.structs.PieceC.{PieceC}
use Rattle.hub_session.specs.declared.structs.TheConstants.{NO_PIECE, WRITTEN, NO_ROOM, NO_MEMORY}

-- the head lines, and then the line of each entry
abbrev pub pieces : JournalView → List (List ℕ)
pieces j = head_lines j.head ∷ map line j.entries

-- the line of this entry, if there is one, as the only piece
abbrev pub only_line : Option Entry → List (List ℕ)
only_line None = []
only_line (Some e) = line e ∷ []

-- one behind the other
abbrev pub joined : List (List ℕ) → List ℕ
joined ps = flat_map (λ piece. piece) ps

-- all pieces in order are the text
abbrev pub AreText : Type 0
AreText = (j : JournalView) → joined (pieces j) ≡ text j.head j.entries

-- each entry is admitted where it stands, and is one that the journal's edition has
pub record IsLegalJournal (j : JournalView) : Type 0 where
  pub legal : IsLegal j.head j.entries
  pub fits : AreOf j.head.edition j.entries

-- ---- pieces are put together

-- the head lines, or for another number the line of this entry, if there is one
abbrev pub piece_of : Head → ℕ → Option Entry → Option (List ℕ)
piece_of h zero e = Some (head_lines h)
piece_of h (suc n) e = option_map line e

-- the piece was appended, if there is one, and that is told
abbrev pub Puts : Option (List ℕ) → Bool → List ℕ → List ℕ → Type 0
Puts None there was now = (there ≡ false) × (now ≡ was)
Puts (Some piece) there was now = (there ≡ true) × (now ≡ was ++ piece)

-- the first so many of these pieces were appended
pub record PutsSome (left : List (List ℕ)) (count : ℕ) (was now : List ℕ) : Type 0 where
  pub there : count ≤ length left
  pub put : now ≡ was ++ joined (take count left)

-- ---- what is told

abbrev pub none_told : PieceC
none_told = record { what = NO_PIECE; count = 0; length = 0 }

-- the piece has no room
abbrev pub wants_told : List ℕ → PieceC
wants_told piece = record { what = NO_ROOM; count = 0; length = length piece }

-- memory is refused
abbrev pub refused_told : PieceC
refused_told = record { what = NO_MEMORY; count = 0; length = 0 }

-- the first so many of these pieces, at least one, stand at the head of the place for them
pub record Writes (left : List (List ℕ)) (place now : List ℕ) (told : PieceC) : Type 0 where
  pub some : 1 ≤ told.count
  pub there : told.count ≤ length left
  pub tells : told ≡ record { what = WRITTEN; count = told.count; length = length (joined (take told.count left)) }
  pub fits : told.length ≤ length place
  pub now_is : now ≡ joined (take told.count left) ++ drop told.length place

-- if the first has room, some are written; else nothing is, and it is told how much that one wants
pub record ReadsFirst (first : List ℕ) (left : List (List ℕ)) (place now : List ℕ) (told : PieceC) : Type 0 where
  pub written : length first ≤ length place → Writes (first ∷ left) place now told
  pub no_room : length place < length first → (told ≡ wants_told first) × (now ≡ place)

-- what a reading of the pieces that are left comes to, where no memory is refused
abbrev pub ReadsLeft : List (List ℕ) → List ℕ → List ℕ → PieceC → Type 0
ReadsLeft [] place now told = (told ≡ none_told) × (now ≡ place)
ReadsLeft (first ∷ left) place now told = ReadsFirst first left place now told

-- what it comes to
abbrev pub Reads : List (List ℕ) → List ℕ → List ℕ → PieceC → Type 0
Reads left place now told = ReadsLeft left place now told ⊎ ((told ≡ refused_told) × (now ≡ place))
