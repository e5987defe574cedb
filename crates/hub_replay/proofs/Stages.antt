-- What the next line says, by where a conversation stands.
use Rattle.std.proofs.Common.{◌≡◌, ℕ, ◌+◌, ◌<◌, ◌≤◌, inl, inr, Bool, true, false, cond, List, [], ◌∷◌}
use Rattle.std.proofs.Common.{◌++◌, length, map, refl, ap, ◌∙◌, sym}
use Rattle.std.proofs.Common.{arith, append_assoc, append-nil, length-append, Option, Some, None, Result, Ok, Err}
use Rattle.std.proofs.lemmas.Bool.{lt-ltb}
use Rattle.std.specs.Prelude.{nat_lt}
use Rattle.std.specs.List.{flat_map}
use Rattle.hub_base.specs.Entry.{Entry}
use Rattle.hub_base.specs.declared.head.Edition.{Edition}
use Rattle.hub_base.specs.declared.head.Edition.TheVariants.{One, Two, Three}
use Rattle.hub_base.specs.declared.head.Head.{Head}
use Rattle.hub_base.specs.declared.limits.TheConstants.{MOST_BYTES}
use Rattle.hub_base.specs.declared.read_fault.Kind.{Kind}
use Rattle.hub_base.specs.declared.read_fault.Kind.TheVariants.{TooLong, CutLine}
use Rattle.hub_base.specs.Lines.{line, pieces, read_fields}
use Rattle.hub_base.specs.Reading.{Reading, Reads, Faulty, Row, rows, reading, read_text, end_of, row_fault, faulty_or, entry_says}
use Rattle.hub_base.specs.Reading.{entries_from, with_entry}
use Rattle.hub_base.specs.Reading.{behind, over, counted, head_lines}
use Rattle.hub_base.specs.Text.{IsText, header_row, procs_row, row_of, steps_of, fault_of_entry}
use Rattle.hub_base.proofs.Bodies.{rows-entries}
use Rattle.hub_base.proofs.Heads.{head-rows, heads-again, header-again, text-take}
use Rattle.hub_base.proofs.Running.{entries-again, row-fine}
use Rattle.hub_replay.specs.declared.running.Running.{Running}
use Rattle.hub_replay.specs.Lines.{IsLine, first_line}
use Rattle.hub_replay.specs.Stands.{InHead, IsAt}
use Rattle.hub_replay.proofs.FirstLines.{first-row}
use Rattle.hub_replay.proofs.LineEnds.{rows-of-line}

fault-by : (b : Bool) (k : ℕ) (said : Reading) (kind : Kind) → cond b (Some TooLong) None ≡ Some kind → cond b (Faulty k TooLong) said ≡ Faulty k kind
fault-by true k said kind h = let same : TooLong ≡ kind = cc in ap (Faulty k) same
fault-by false k said kind h = cc

-- what is wrong with what a line says is the fault of the text
says-fault : (k steps : ℕ) (said : Result Entry Kind) (goes : Entry → Reading) (kind : Kind) → fault_of_entry steps said ≡ Some kind
    → entry_says k steps said goes ≡ Faulty k kind
says-fault k steps (Err other) goes kind h = let same : other ≡ kind = cc in ap (Faulty k) same
says-fault k steps (Ok e) goes kind h = fault-by (over steps e) k (with_entry e (goes e)) kind h

-- ---- behind a journal's text
module _ (lines : List ℕ) (head : Head) (entries : List Entry) (t : IsText lines head entries) where
  lines-length : length lines ≡ length (head_lines head) + length (flat_map line entries)
  lines-length = ap length t.spelled ∙ length-append (head_lines head) (flat_map line entries)

  -- its entries are read again, and then what stands behind it
  pub goes-on : (more : List ℕ) → read_text (lines ++ more)
      ≡ behind entries (entries_from head (3 + length entries) (length lines) (steps_of entries) (rows more))
  goes-on more =
      let l = lines-length in
      let fit = t.bytes_fit in
      ap (λ bs. read_text (bs ++ more)) t.spelled
      ∙ ap read_text (append_assoc (head_lines head) (flat_map line entries) more)
      ∙ ap reading (head-rows head t.head (flat_map line entries ++ more))
      ∙ ap (λ rs. reading (header_row head.edition ∷ procs_row head.procs ∷ rs)) (rows-entries head.edition entries more t.fits)
      ∙ heads-again head (map row_of entries ++ rows more) t.head (omega (arith, l, fit))
      ∙ entries-again head entries (rows more) 3 (length (head_lines head)) 0 (3 + length entries) (length lines) (steps_of entries) t.fits
      refl l (omega arith) fit t.steps_fit

  module _ (bytes body : List ℕ) (at : IsLine bytes body) (fits : length lines + length bytes ≤ MOST_BYTES) where
    -- the next line, and what stands behind it
    pub line-goes : (more : List ℕ) → read_text (lines ++ (bytes ++ more))
        ≡ behind entries (entry_says (3 + length entries) (steps_of entries) (read_fields head.edition (pieces 32 body))
        (λ e. entries_from head (3 + length entries + 1) (length lines + length body + 1) (counted (steps_of entries) e) (rows more)))
    line-goes more =
        let k = 3 + length entries in
        let steps = steps_of entries in
        let goes : Entry → Reading = λ e. entries_from head (k + 1) (length lines + length body + 1) (counted steps e) (rows more) in
        let last : length bytes ≡ length body + 1 = ap length at.is ∙ length-append body (10 ∷ []) in
        goes-on (bytes ++ more)
        ∙ ap (λ rs. behind entries (entries_from head k (length lines) steps rs)) (rows-of-line bytes body more at)
        ∙ ap (λ o. behind entries (faulty_or k (entry_says k steps (read_fields head.edition (pieces 32 body)) goes) o))
        (row-fine (length lines + length body + 1) body (omega (arith, last, fits)))

    -- the line is an entry's, so this is a longer journal's text
    pub line-reads : (e : Entry) → read_fields head.edition (pieces 32 body) ≡ Ok e → over (steps_of entries) e ≡ false
        → IsText (lines ++ bytes) head (entries ++ e ∷ [])
    line-reads e said few =
        let k = 3 + length entries in
        let goes : Entry → Reading = λ e. Reads head [] in
        text-take (lines ++ bytes) head (entries ++ e ∷ [])
        (ap (λ bs. read_text (lines ++ bs)) (sym (append-nil bytes)) ∙ line-goes []
        ∙ ap (λ said. behind entries (entry_says k (steps_of entries) said goes)) said
        ∙ ap (λ b. behind entries (cond b (Faulty k TooLong) (Reads head (e ∷ [])))) few)

    -- or it is faulty, whatever follows
    pub line-fails : (kind : Kind) → fault_of_entry (steps_of entries) (read_fields head.edition (pieces 32 body)) ≡ Some kind
        → (more : List ℕ) → read_text ((lines ++ bytes) ++ more) ≡ Faulty (3 + length entries) kind
    line-fails kind fault more =
        ap read_text (append_assoc lines bytes more) ∙ line-goes more
        ∙ ap (behind entries) (says-fault (3 + length entries) (steps_of entries) (read_fields head.edition (pieces 32 body)) _ kind fault)

-- ---- a line that is too long, or cut
first-length : (e : Edition) → length (first_line e) ≡ 18
first-length One = refl
first-length Two = refl
first-length Three = refl

failing : (k : ℕ) (said : Reading) (o : Option Kind) (kind : Kind) → o ≡ Some kind → faulty_or k said o ≡ Faulty k kind
failing k said o kind h = ap (faulty_or k said) h

-- the row behind the lines fails by its length or its end alone
pub row-fails : (running : Option Running) (number : ℕ) (lines front said x : List ℕ) (r : Row) (rs : List Row) (kind : Kind)
    → IsAt running number lines front said → rows x ≡ r ∷ rs → row_fault (end_of (length lines) r) r ≡ Some kind
    → read_text (lines ++ x) ≡ Faulty number kind
row-fails (Some running) number lines front said x r rs kind at is fault =
    let k = 3 + length at.entries in
    goes-on lines at.head at.entries at.text x ∙ ap (λ rs. behind at.entries (entries_from at.head k (length lines) (steps_of at.entries) rs)) is
    ∙ ap (behind at.entries) (failing k _ _ kind fault) ∙ ap (λ k. Faulty k kind) (sym at.number_is)
row-fails None number lines front said x r rs kind at is fault = go at.head where
  go : InHead number lines → read_text (lines ++ x) ≡ Faulty number kind
  go (inl (one, none)) =
      let first : row_fault (end_of 0 r) r ≡ Some kind = ap (λ (l : List ℕ). row_fault (end_of (length l) r) r) (sym none) ∙ fault in
      ap (λ l. read_text (l ++ x)) none ∙ ap reading is ∙ failing 1 _ _ kind first ∙ ap (λ k. Faulty k kind) (sym one)
  go (inr (e, two, first)) =
      let place : length lines ≡ 18 = ap length first ∙ first-length e in
      let fault' : row_fault (end_of 18 r) r ≡ Some kind = ap (λ n. row_fault (end_of n r) r) (sym place) ∙ fault in
      ap (λ l. read_text (l ++ x)) first ∙ ap reading (first-row e x ∙ ap (λ rs. header_row e ∷ rs) is) ∙ header-again e (r ∷ rs)
      ∙ failing 2 _ _ kind fault' ∙ ap (λ k. Faulty k kind) (sym two)

-- a row that ends past the limit
pub row-long : (end : ℕ) (r : Row) → MOST_BYTES < end → row_fault end r ≡ Some TooLong
row-long end r h = go (nat_lt MOST_BYTES end) (lt-ltb MOST_BYTES end h) where
  go : (b : Bool) → b ≡ true → cond b (Some TooLong) (cond r.whole None (Some CutLine)) ≡ Some TooLong
  go true e = refl
  go false e = cc
