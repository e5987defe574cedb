-- One line of a text, and what it says behind the head lines.
use Rattle.std.specs.Prelude.{◌≡◌, ℕ, List, [], ◌∷◌, ◌++◌, codes, Result, Ok, Err}
use Rattle.hub_base.specs.declared.head.Edition.{Edition}
use Rattle.hub_base.specs.declared.head.Head.{Head}
use Rattle.hub_base.specs.Entry.{Entry}
use Rattle.hub_base.specs.declared.read_fault.Kind.{Kind}
use Rattle.hub_base.specs.Head.{IsHead}
use Rattle.hub_base.specs.Lines.{pieces, read_fields}
use Rattle.hub_base.specs.Reading.{Reading, Reads, Faulty, header, head_lines}
use Rattle.hub_replay.specs.Verify.{newlines_in}

-- a line with its newline, which is the only one; 10 is a newline
pub record IsLine (bytes body : List ℕ) : Type 0 where
  pub is : bytes ≡ body ++ 10 ∷ []
  pub one : newlines_in body ≡ 0

-- the bytes begin with this line, and this stands behind it
pub record IsCut (bytes line rest : List ℕ) : Type 0 where
  pub body : List ℕ
  pub is : bytes ≡ line ++ rest
  pub whole : IsLine line body

-- the first line of a journal of this edition
abbrev pub first_line : Edition → List ℕ
first_line edition = header edition ++ codes "\n"

-- a text is the first line and this second one
pub record IsSecond (bytes : List ℕ) (edition : Edition) (line body : List ℕ) : Type 0 where
  pub is : bytes ≡ first_line edition ++ line
  pub whole : IsLine line body

-- a text is two head lines and this line of an entry
pub record IsEntryLine (bytes : List ℕ) (head : Head) (line body : List ℕ) : Type 0 where
  pub is : bytes ≡ head_lines head ++ line
  pub whole : IsLine line body
  pub possible : IsHead head

-- what a line without its newline says, as it was answered, and read into this entry
abbrev pub Says : Edition → List ℕ → Entry → Result (Unit {0}) Kind → Type 0
Says edition body entry (Ok _) = read_fields edition (pieces 32 body) ≡ Ok entry
Says edition body entry (Err kind) = read_fields edition (pieces 32 body) ≡ Err kind

-- what a text of one entry says, by what the entry's line says
abbrev pub says_one : Head → Result Entry Kind → Reading
says_one head (Ok e) = Reads head (e ∷ [])
says_one head (Err kind) = Faulty 3 kind
