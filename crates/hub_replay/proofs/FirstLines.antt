-- What the two head lines say, whatever stands behind them.
use Rattle.std.proofs.Common.{◌≡◌, ℕ, List, [], ◌∷◌, ◌++◌, codes, refl, ap, ◌∙◌, sym, Option, Some, None, append_assoc}
use Rattle.std.proofs.Common.{append-nil, ◌≢◌, true}
use Rattle.std.specs.Prelude.{drop}
use Rattle.hub_base.specs.declared.head.Edition.{Edition}
use Rattle.hub_base.specs.declared.head.Edition.TheVariants.{One, Two, Three}
use Rattle.hub_base.specs.declared.head.Head.{Head}
use Rattle.hub_base.specs.declared.read_fault.Kind.{Kind}
use Rattle.hub_base.specs.declared.read_fault.Kind.TheVariants.{BadProcs}
use Rattle.hub_text.specs.Reader.{edition_said, procs_said}
use Rattle.hub_base.specs.Reading.{Faulty, Row, rows, row_fault, end_of, faulty_or, edition_of, edition_says, procs_number}
use Rattle.hub_base.specs.Reading.{procs_say}
use Rattle.hub_base.specs.Reading.{reading, read_text, header, head_lines, procs_line}
use Rattle.hub_base.specs.Text.{header_row}
use Rattle.hub_base.proofs.Heads.{edition-take, procs-take, header-again}
use Rattle.hub_replay.specs.Lines.{IsLine, IsSecond, first_line}
use Rattle.hub_replay.proofs.LineEnds.{rows-of-line}

-- ---- the first line
-- with no line behind it, line 1 is faulty, or only the second is missing
first-fails : (o : Option Kind) (p : Option Edition) (start : ℕ) (rs : List Row) (kind : Kind)
    → faulty_or 1 (edition_says p start []) o ≡ Faulty 1 kind → faulty_or 1 (edition_says p start rs) o ≡ Faulty 1 kind
first-fails (Some other) p start rs kind h = h
first-fails None None start rs kind h = h
first-fails None (Some e) start rs kind h = cc

first-fine : (o : Option Kind) (p : Option Edition) (start : ℕ) (k : ℕ) (kind : Kind)
    → faulty_or 1 (edition_says p start []) o ≡ Faulty k kind → k ≢ 1 → (e : Edition) × (p ≡ Some e)
first-fine (Some other) p start k kind h beyond = absurd (beyond cc)
first-fine None None start k kind h beyond = absurd (beyond cc)
first-fine None (Some e) start k kind h beyond = (e, refl)

module _ (bytes body : List ℕ) (line : IsLine bytes body) where
  row : Row
  row = record { bytes = body; whole = true }

  text-is : (more : List ℕ) → read_text (bytes ++ more)
      ≡ faulty_or 1 (edition_says (edition_of body) (end_of 0 (record { bytes = body; whole = true })) (rows more))
      (row_fault (end_of 0 (record { bytes = body; whole = true })) (record { bytes = body; whole = true }))
  text-is more = ap reading (rows-of-line bytes body more line)

  alone : rows bytes ≡ record { bytes = body; whole = true } ∷ []
  alone = ap rows (sym (append-nil bytes)) ∙ rows-of-line bytes body [] line

  alone-is : read_text bytes
      ≡ faulty_or 1 (edition_says (edition_of body) (end_of 0 (record { bytes = body; whole = true })) [])
      (row_fault (end_of 0 (record { bytes = body; whole = true })) (record { bytes = body; whole = true }))
  alone-is = ap reading alone

  edition-spelled : (e : Edition) → edition_of body ≡ Some e → bytes ≡ first_line e
  edition-spelled e is = line.is ∙ ap (λ b. b ++ 10 ∷ []) (edition-take body e is)

  -- line 1 is faulty, whatever follows
  pub first-faulty : (kind : Kind) → read_text bytes ≡ Faulty 1 kind → (more : List ℕ) → read_text (bytes ++ more) ≡ Faulty 1 kind
  first-faulty kind h more = text-is more ∙ first-fails _ _ _ (rows more) kind (sym alone-is ∙ h)

  -- another line is, so this is a first line
  pub first-said : (k : ℕ) (kind : Kind) → read_text bytes ≡ Faulty k kind → k ≢ 1 → (e : Edition) × (bytes ≡ first_line e)
  first-said k kind h beyond =
      let fine = first-fine _ _ _ k kind (sym alone-is ∙ h) beyond in
      (fine.0, edition-spelled fine.0 fine.1)

  -- the edition that it says
  pub first-read : (e : Edition) → edition_said (rows bytes) ≡ Some e → (e : Edition) × (bytes ≡ first_line e)
  first-read e h = (e, edition-spelled e (sym (ap edition_said alone) ∙ h))

-- ---- the second line
pub first-row : (e : Edition) (x : List ℕ) → rows (first_line e ++ x) ≡ header_row e ∷ rows x
first-row One x = refl
first-row Two x = refl
first-row Three x = refl

header-says : (e : Edition) → edition_of (header e) ≡ Some e
header-says One = refl
header-says Two = refl
header-says Three = refl

cc-some : (a b : Edition) → Some a ≡ Some b → a ≡ b
cc-some a b h = cc

second-fails : (o : Option Kind) (e : Edition) (p : Option ℕ) (start : ℕ) (rs : List Row) (k : ℕ) (kind : Kind)
    → faulty_or 2 (procs_say e p start []) o ≡ Faulty k kind → faulty_or 2 (procs_say e p start rs) o ≡ Faulty 2 kind
second-fails (Some other) e p start rs k kind h = let same : other ≡ kind = cc in ap (Faulty 2) same
second-fails None e None start rs k kind h = let same : BadProcs ≡ kind = cc in ap (Faulty 2) same
second-fails None e (Some n) start rs k kind h = cc

module _ (bytes line body : List ℕ) (edition : Edition) (second : IsSecond bytes edition line body) where
  both-rows : (more : List ℕ) → rows (bytes ++ more) ≡ header_row edition ∷ record { bytes = body; whole = true } ∷ rows more
  both-rows more =
      ap (λ bs. rows (bs ++ more)) second.is ∙ ap rows (append_assoc (first_line edition) line more)
      ∙ first-row edition (line ++ more) ∙ ap (λ rs. header_row edition ∷ rs) (rows-of-line line body more second.whole)

  both-alone : rows bytes ≡ header_row edition ∷ record { bytes = body; whole = true } ∷ []
  both-alone = ap rows (sym (append-nil bytes)) ∙ both-rows []

  both-say : (rs : List Row) → reading (header_row edition ∷ record { bytes = body; whole = true } ∷ rs)
      ≡ faulty_or 2 (procs_say edition (procs_number body) (end_of 18 (record { bytes = body; whole = true })) rs)
      (row_fault (end_of 18 (record { bytes = body; whole = true })) (record { bytes = body; whole = true }))
  both-say rs = header-again edition (record { bytes = body; whole = true } ∷ rs)

  -- line 2 is faulty, whatever follows
  pub second-faulty : (k : ℕ) (kind : Kind) → read_text bytes ≡ Faulty k kind → (more : List ℕ) → read_text (bytes ++ more) ≡ Faulty 2 kind
  second-faulty k kind h more =
      ap reading (both-rows more) ∙ both-say (rows more)
      ∙ second-fails _ edition _ _ (rows more) k kind (sym (both-say []) ∙ sym (ap reading both-alone) ∙ h)

  -- both lines are this head's
  pub head-read : (head : Head) → edition_said (rows bytes) ≡ Some head.edition → procs_said (drop 1 (rows bytes)) ≡ Some head.procs
      → bytes ≡ head_lines head
  head-read head ed procs =
      let one : edition_of (header edition) ≡ Some head.edition = sym (ap edition_said both-alone) ∙ ed in
      let same : edition ≡ head.edition = cc-some edition head.edition (sym (header-says edition) ∙ one) in
      let two : procs_number body ≡ Some head.procs = sym (ap (λ rs. procs_said (drop 1 rs)) both-alone) ∙ procs in
      let spelled = (procs-take body head.procs two).spelled in
      second.is ∙ ap (λ l. first_line edition ++ l) (second.whole.is ∙ ap (λ b. b ++ 10 ∷ []) spelled)
      ∙ ap (λ e. first_line e ++ (procs_line head.procs ++ 10 ∷ [])) same
      ∙ append_assoc (header head.edition) (codes "\n") (procs_line head.procs ++ 10 ∷ [])
