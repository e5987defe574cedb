-- The pieces of a line: fixed words, numbers, and what journals and events spell; and where readers go by them.
use Rattle.std.specs.Prelude.{◌≡◌, ℕ, ◌<◌, ◌^◌, ◌==◌, ◌&&◌, ◌||◌, not, nat_le, Bool, true, List, [], ◌∷◌, ◌++◌, codes, decimal, if◌then◌else◌}
use Rattle.std.specs.Prelude.{Option, None, Some, MatchOption}
use Rattle.std.specs.List.{flat_map, list_all}
use Rattle.hub_trace.specs.Json as json
use Rattle.hub_trace.specs.Json.{Nest, State, at}
use Rattle.hub_trace.specs.Json.Place.{Value, Text, Number}
use Rattle.hub_trace.specs.Diagrams as diagrams
use Rattle.hub_trace.specs.Diagrams.Place.{Due}
use Rattle.hub_trace.specs.declared.pieces.Piece.{Piece}
use Rattle.hub_trace.specs.declared.pieces.Piece.TheVariants as piece

-- journals and events spell with visible bytes and spaces, but no quotation mark (34), semicolon (59) or backslash (92)
abbrev pub is_spelled : ℕ → Bool
is_spelled c = nat_le 32 c && (nat_le c 126 && not ((c == 34) || ((c == 59) || (c == 92))))

abbrev pub IsSpelled : List ℕ → Type 0
IsSpelled text = list_all is_spelled text ≡ true

-- what may stand for a piece
abbrev pub Stands : Piece → List ℕ → Type 0
Stands (piece.Word bytes) text = text ≡ bytes.now
Stands (piece.Number n) text = (text ≡ decimal n) × (n < 2 ^ 64)
Stands (piece.With bytes n) text = IsSpelled bytes.now → IsSpelled text
Stands other text = IsSpelled text

-- a text grew by what may stand for a piece; and for these, one after the other
pub record Grows (p : Piece) (old new : List ℕ) : Type 0 where
  pub text : List ℕ
  pub is : new ≡ old ++ text
  pub stands : Stands p text

abbrev pub Chain : List Piece → List ℕ → List ℕ → Type 0
Chain [] old new = new ≡ old
Chain (p ∷ ps) old new = (mid : List ℕ) × Grows p old mid × Chain ps mid new

pub record GrowsBy (ps : List Piece) (old new : List ℕ) : Type 0 where
  pub chain : Chain ps old new

-- ---- by pieces a reader goes from here to there, whatever may stand for them
abbrev pub Walks : {S : Type 0} → (Piece → S → Option S) → List Piece → S → S → Type 0
Walks behind [] s t = s ≡ t
Walks behind (p ∷ ps) s t = MatchOption (behind p s) ⊥ (λ u. Walks behind ps u t)

-- in JSON a number stands where a value begins, or in a string; what is spelled stands in a string alone
abbrev pub number_behind : ℕ → json.Place → List Nest → Option State
number_behind n Value nest = Some (at (Number (not (n == 0))) nest)
number_behind n Text nest = Some (at Text nest)
number_behind n other nest = None

abbrev pub spelled_behind : json.Place → List Nest → Option State
spelled_behind Text nest = Some (at Text nest)
spelled_behind other nest = None

abbrev pub behind : Piece → State → Option State
behind (piece.Word bytes) s = Some (json.after s bytes.now)
behind (piece.Number n) s = number_behind n s.place s.nest
behind (piece.With bytes n) s = if list_all is_spelled bytes.now then spelled_behind s.place s.nest else None
behind other s = spelled_behind s.place s.nest

-- ---- behind a `#`, which is 35, Mermaid would read a comment
abbrev pub escape : ℕ → List ℕ
escape c = if c == 35 then codes "#35;" else c ∷ []

-- in a diagram numbers, and what is spelled, stand in a line
abbrev pub line_behind : diagrams.Place → Option diagrams.Place
line_behind (Due []) = Some (Due [])
line_behind other = None

abbrev pub escaped_behind : Piece → diagrams.Place → Option diagrams.Place
escaped_behind (piece.Word bytes) p = Some (diagrams.after p (flat_map escape bytes.now))
escaped_behind (piece.With bytes n) p = if list_all is_spelled bytes.now then line_behind p else None
escaped_behind other p = line_behind p
