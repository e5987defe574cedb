-- The two head lines, and whole texts: a text is read as its entries, and what is read is such a text.
use Rattle.std.proofs.Common.{◌≡◌, ℕ, ◌+◌, ◌≤◌, ◌<◌, ◌^◌, Bool, true, false, cond, List, [], ◌∷◌, ◌++◌, length, map, refl, ap, ◌∙◌}
use Rattle.std.proofs.Common.{sym, subst, Option, Some, None, arith, codes, ◌==◌, append_assoc, append-nil, length-append}
use Rattle.std.proofs.lemmas.Grind.{common_steps}
use Rattle.std.specs.Prelude.{decimal, nat_lt}
use Rattle.std.specs.List.{join_with_byte, AllByRecursion, flat_map}
use Rattle.hub_base.specs.Entry.{Entry}
use Rattle.hub_base.specs.declared.head.Edition.{Edition}
use Rattle.hub_base.specs.declared.head.Edition.TheVariants.{One, Two, Three}
use Rattle.hub_base.specs.declared.head.Head.{Head}
use Rattle.hub_base.specs.declared.limits.TheConstants.{MOST_PROCS, MOST_STEPS, MOST_BYTES}
use Rattle.hub_base.specs.declared.read_fault.Kind.TheVariants.{TooLong}
use Rattle.hub_base.specs.Head.{IsHead, head_of}
use Rattle.hub_base.specs.Lines.{number, pieces, line, same_text}
use Rattle.hub_base.specs.Reading.{Row, rows, front, Reads, text, header, head_lines, procs_line, entries_from, row_fault}
use Rattle.hub_base.specs.Reading.{faulty_or, end_of, procs_field, above_zero, procs_number, procs_say, procs_from, reading, read_text}
use Rattle.hub_base.specs.Reading.{edition_of, edition_says}
use Rattle.hub_base.specs.Text.{Fits, IsText, row_of, steps_of, header_row, procs_row}
use Rattle.hub_base.proofs.Bodies.{rows-line, rows-entries}
use Rattle.hub_base.proofs.Bound.{number-ok}
use Rattle.hub_base.proofs.Numerals.{number-again, pieces-last, decimal-lacks, lacks, same-true, joined-pieces, lacks-append}
use Rattle.hub_base.proofs.Running.{entries-again, entries-take, said-reads, row-none}

small : (n : ℕ) → n ≤ MOST_PROCS → n < 2 ^ 64
small n h = omega arith

above : (n : ℕ) → 1 ≤ n → (n == 0) ≡ false
above n h = grind (arith, common_steps)

-- the second line is read as it is spelled
pub procs-again : (n : ℕ) → 1 ≤ n → n ≤ MOST_PROCS → procs_number (procs_line n) ≡ Some n
procs-again n some few =
    ap (λ ps. above_zero (procs_field (codes "procs" ∷ ps))) (pieces-last 32 (decimal n) (decimal-lacks 32 n (omega arith) (small n few)))
    ∙ ap above_zero (number-again MOST_PROCS n (omega arith) few)
    ∙ ap (λ b. cond b None (Some n)) (above n some)

field-some : (fs : List (List ℕ)) (n : ℕ) → procs_field fs ≡ Some n
    → (w : List ℕ) × (p : List ℕ) × (fs ≡ w ∷ p ∷ []) × (same_text w (codes "procs") ≡ true) × (number MOST_PROCS p ≡ Some n)
field-some [] n h = cc
field-some (w ∷ []) n h = cc
field-some (w ∷ p ∷ []) n h = go (same_text w (codes "procs")) refl h where
  go : (b : Bool) → same_text w (codes "procs") ≡ b → cond b (number MOST_PROCS p) None ≡ Some n
      → (w' : List ℕ) × (p' : List ℕ) × (w ∷ p ∷ [] ≡ w' ∷ p' ∷ []) × (same_text w' (codes "procs") ≡ true) × (number MOST_PROCS p' ≡ Some n)
  go true s h = (w, p, refl, s, h)
  go false s h = cc
field-some (w ∷ p ∷ q ∷ fs) n h = cc

positive : (o : Option ℕ) (n : ℕ) → above_zero o ≡ Some n → (o ≡ Some n) × (1 ≤ n)
positive None n h = cc
positive (Some m) n h = go (m == 0) refl h where
  go : (b : Bool) → (m == 0) ≡ b → cond b None (Some m) ≡ Some n → (Some m ≡ Some n) × (1 ≤ n)
  go true z h = cc
  go false z h = let is : m ≡ n = cc in (h, grind (arith, common_steps))

-- a second line of n processes
pub record ProcsSpelled (bytes : List ℕ) (n : ℕ) : Type 0 where
  pub spelled : bytes ≡ procs_line n
  pub some : 1 ≤ n
  pub few : n ≤ MOST_PROCS

-- what says n processes is their spelling
pub procs-take : (bytes : List ℕ) (n : ℕ) → procs_number bytes ≡ Some n → ProcsSpelled bytes n
procs-take bytes n h =
    let a = positive (procs_field (pieces 32 bytes)) n h in
    let f = field-some (pieces 32 bytes) n a.0 in
    let x = number-ok MOST_PROCS f.1 n (omega arith) f.4 in
    record {
      spelled = sym (joined-pieces 32 bytes) ∙ ap (join_with_byte 32) f.2
          ∙ ap (λ w. w ++ 32 ∷ f.1) (same-true f.0 (codes "procs") f.3) ∙ ap (λ p. codes "procs" ++ 32 ∷ p) x.0;
      some = a.1;
      few = x.1;
    }

header-length : (e : Edition) → length (header e) ≡ 17
header-length One = refl
header-length Two = refl
header-length Three = refl

head-length : (h : Head) → length (head_lines h) ≡ 18 + length (procs_line h.procs) + 1
head-length h =
    let a = length-append (header h.edition) (codes "\n" ++ (procs_line h.procs ++ codes "\n")) in
    let b : length (procs_line h.procs ++ codes "\n") ≡ length (procs_line h.procs) + 1 = length-append (procs_line h.procs) (codes "\n") in
    omega (arith, a, b, header-length h.edition)

-- ---- the first line
-- where it ends
pub first-place : (e : Edition) → end_of 0 (header_row e) ≡ 18
first-place One = refl
first-place Two = refl
first-place Three = refl

-- it is read as it is spelled
pub header-again : (e : Edition) (rs : List Row) → reading (header_row e ∷ rs) ≡ procs_from e 18 rs
header-again One rs = refl
header-again Two rs = refl
header-again Three rs = refl

header-row : (e : Edition) (x : List ℕ) → rows (header e ++ (codes "\n" ++ x)) ≡ header_row e ∷ rows x
header-row One x = refl
header-row Two x = refl
header-row Three x = refl

header-joined : (e : Edition) (x y : List ℕ) → (header e ++ codes "\n") ++ (x ++ y) ≡ (header e ++ (codes "\n" ++ x)) ++ y
header-joined One x y = refl
header-joined Two x y = refl
header-joined Three x y = refl

-- what says this edition is its spelling
pub edition-take : (bytes : List ℕ) (e : Edition) → edition_of bytes ≡ Some e → bytes ≡ header e
edition-take bytes e h = go (same_text bytes (header One)) (same_text bytes (header Two)) (same_text bytes (header Three)) refl refl refl h where
  go : (a b c : Bool) → same_text bytes (header One) ≡ a → same_text bytes (header Two) ≡ b → same_text bytes (header Three) ≡ c
      → cond a (Some One) (cond b (Some Two) (cond c (Some Three) None)) ≡ Some e
      → bytes ≡ header e
  go true b c p q r h = let is : One ≡ e = cc in same-true bytes (header One) p ∙ ap header is
  go false true c p q r h = let is : Two ≡ e = cc in same-true bytes (header Two) q ∙ ap header is
  go false false true p q r h = let is : Three ≡ e = cc in same-true bytes (header Three) r ∙ ap header is
  go false false false p q r h = cc

-- ---- a text is read
pub heads-again : (h : Head) (rs : List Row) → IsHead h → length (head_lines h) ≤ MOST_BYTES
    → reading (header_row h.edition ∷ procs_row h.procs ∷ rs) ≡ entries_from h 3 (length (head_lines h)) 0 rs
heads-again h rs is lim =
    let n : ℕ = h.procs in
    let e : Edition = h.edition in
    let place : end_of 18 (procs_row n) ≡ length (head_lines h) = sym (head-length h) in
    let fits : nat_lt MOST_BYTES (end_of 18 (procs_row n)) ≡ false = (let l = head-length h in grind (arith, common_steps)) in
    header-again e (procs_row n ∷ rs)
    ∙ ap (λ b. faulty_or 2 (procs_say e (procs_number (procs_line n)) (end_of 18 (procs_row n)) rs) (cond b (Some TooLong) None)) fits
    ∙ ap (λ o. procs_say e o (end_of 18 (procs_row n)) rs) (procs-again n is.0 is.1)
    ∙ ap (λ p. entries_from h 3 p 0 rs) place

procs-lacks : (n : ℕ) → n ≤ MOST_PROCS → lacks 10 (procs_line n) ≡ true
procs-lacks n few = lacks-append 10 (codes "procs ") (decimal n) refl (decimal-lacks 10 n (omega arith) (small n few))

-- the head lines are two rows
pub head-rows : (h : Head) → IsHead h → (more : List ℕ) → rows (head_lines h ++ more) ≡ header_row h.edition ∷ procs_row h.procs ∷ rows more
head-rows h is more =
    ap rows (append_assoc (header h.edition) (codes "\n" ++ (procs_line h.procs ++ codes "\n")) more)
    ∙ header-row h.edition ((procs_line h.procs ++ codes "\n") ++ more)
    ∙ ap (λ rs. header_row h.edition ∷ rs)
    (ap rows (append_assoc (procs_line h.procs) (codes "\n") more) ∙ rows-line (procs_line h.procs) more (procs-lacks h.procs is.1))

text-rows : (h : Head) (es : List Entry) → IsHead h → AllByRecursion (Fits h.edition) es
    → rows (text h es) ≡ header_row h.edition ∷ procs_row h.procs ∷ map row_of es
text-rows h es is fits =
    head-rows h is (flat_map line es)
    ∙ ap (λ rs. header_row h.edition ∷ procs_row h.procs ∷ rs)
    (ap rows (sym (append-nil (flat_map line es))) ∙ rows-entries h.edition es [] fits ∙ append-nil (map row_of es))

text-length : (h : Head) (es : List Entry) → length (text h es) ≡ length (head_lines h) + length (flat_map line es)
text-length h es = length-append (head_lines h) (flat_map line es)

-- a text is read as its entries
pub text-again : (bytes : List ℕ) (h : Head) (es : List Entry) → IsText bytes h es → read_text bytes ≡ Reads h es
text-again bytes h es t =
    let l : length bytes ≡ length (head_lines h) + length (flat_map line es) = ap length t.spelled ∙ text-length h es in
    let f = t.bytes_fit in
    let all : map row_of es ≡ map row_of es ++ [] = sym (append-nil (map row_of es)) in
    ap read_text t.spelled ∙ ap reading (text-rows h es t.head t.fits)
    ∙ heads-again h (map row_of es) t.head (omega (arith, l, f))
    ∙ ap (entries_from h 3 (length (head_lines h)) 0) all
    ∙ entries-again h es [] 3 (length (head_lines h)) 0 (3 + length es) (length (head_lines h) + length (flat_map line es))
    (steps_of es) t.fits refl refl (omega arith) (omega (arith, l, f)) t.steps_fit
    ∙ ap (Reads h) (append-nil es)

-- ---- what is read is such a text
abbrev pub row_bytes : Row → List ℕ
row_bytes r = r.bytes ++ cond r.whole (10 ∷ []) []

unfront : (c : ℕ) (rs : List Row) → flat_map row_bytes (front c rs) ≡ c ∷ flat_map row_bytes rs
unfront c [] = refl
unfront c (r ∷ rs) = refl

unrow-step : (c : ℕ) (cs : List ℕ) (b : Bool) → (c == 10) ≡ b → flat_map row_bytes (rows cs) ≡ cs
    → flat_map row_bytes (cond b (record { bytes = []; whole = true } ∷ rows cs) (front c (rows cs))) ≡ c ∷ cs
unrow-step c cs true is h = let here : c ≡ 10 = grind (arith, common_steps) in ap (λ r. 10 ∷ r) h ∙ ap (λ c. c ∷ cs) (sym here)
unrow-step c cs false is h = unfront c (rows cs) ∙ ap (λ r. c ∷ r) h

-- lines put together again are the text
pub unrows : (bs : List ℕ) → flat_map row_bytes (rows bs) ≡ bs
unrows [] = refl
unrows (c ∷ cs) = unrow-step c cs (c == 10) refl (unrows cs)

-- where first rows and the others are the same, so are what is read of the first and the bytes of the others
pub rows-one : {A : Type 0} (read : List ℕ → A) (r s : Row) (x y : List ℕ) → r ∷ rows x ≡ s ∷ rows y → (read r.bytes ≡ read s.bytes) × (x ≡ y)
rows-one read r s x y h =
    let first : r ≡ s = cc in
    let others : rows x ≡ rows y = cc in
    (ap (λ (r : Row). read r.bytes) first, sym (unrows x) ∙ ap (flat_map row_bytes) others ∙ unrows y)

unrows-entries : (es : List Entry) → flat_map row_bytes (map row_of es) ≡ flat_map line es
unrows-entries [] = refl
unrows-entries (e ∷ es) = ap (λ r. line e ++ r) (unrows-entries es)

-- two head lines and the lines of entries, within the limits
pub record HeadTook (rs : List Row) (h : Head) (es : List Entry) : Type 0 where
  pub lines : rs ≡ header_row h.edition ∷ procs_row h.procs ∷ map row_of es
  pub head : IsHead h
  pub fits : AllByRecursion (Fits h.edition) es
  pub bytes_fit : length (head_lines h) + length (flat_map line es) ≤ MOST_BYTES
  pub steps_fit : steps_of es ≤ MOST_STEPS

-- a line is its bytes and a newline
pub whole-row : (r : Row) (bytes : List ℕ) → r.bytes ≡ bytes → r.whole ≡ true → r ≡ record { bytes = bytes; whole = true }
whole-row r bytes b w = ap (λ b. record { bytes = b; whole = r.whole }) b ∙ ap (λ w. record { bytes = bytes; whole = w }) w

header-said : (o : Option Edition) (start : ℕ) (rs : List Row) (h : Head) (es : List Entry) → edition_says o start rs ≡ Reads h es
    → (e : Edition) × (o ≡ Some e) × (procs_from e start rs ≡ Reads h es)
header-said None start rs h es is = cc
header-said (Some e) start rs h es is = (e, refl, is)

-- a second line that was read, and what the lines behind it say
pub record Second (e : Edition) (start : ℕ) (rs : List Row) (h : Head) (es : List Entry) : Type 0 where
  pub first : Row
  pub more : List Row
  pub lines : rs ≡ first ∷ more
  pub fine : row_fault (end_of start first) first ≡ None
  pub head : Head
  pub edition_is : head.edition ≡ e
  pub procs_is : procs_number first.bytes ≡ Some head.procs
  pub said : entries_from head 3 (end_of start first) 0 more ≡ Reads h es

procs-said : (e : Edition) (o : Option ℕ) (start : ℕ) (rs : List Row) (h : Head) (es : List Entry) → procs_say e o start rs ≡ Reads h es
    → (k : Head) × (k.edition ≡ e) × (o ≡ Some k.procs) × (entries_from k 3 start 0 rs ≡ Reads h es)
procs-said e None start rs h es is = cc
procs-said e (Some m) start rs h es is = (head_of e m, refl, refl, is)

second : (e : Edition) (start : ℕ) (rs : List Row) (h : Head) (es : List Entry) → procs_from e start rs ≡ Reads h es → Second e start rs h es
second e start [] h es is = cc
second e start (r ∷ rs) h es is =
    let a = said-reads 2 (procs_say e (procs_number r.bytes) (end_of start r) rs) (row_fault (end_of start r) r) h es is in
    let b = procs-said e (procs_number r.bytes) (end_of start r) rs h es a.1 in
    record { first = r; more = rs; lines = refl; fine = a.0; head = b.0; edition_is = b.1; procs_is = b.2; said = b.3 }

-- where the second line ends
pub second-place : (r : Row) (h : Head) → r ≡ procs_row h.procs → end_of 18 r ≡ length (head_lines h)
second-place r h is = ap (end_of 18) is ∙ sym (head-length h)

-- what is read without a fault is head lines and lines of entries
pub head-take : (rs : List Row) (h : Head) (es : List Entry) → reading rs ≡ Reads h es → HeadTook rs h es
head-take [] h es said = cc
head-take (r ∷ rs) h es said =
    let a = said-reads 1 (edition_says (edition_of r.bytes) (end_of 0 r) rs) (row_fault (end_of 0 r) r) h es said in
    let b = header-said (edition_of r.bytes) (end_of 0 r) rs h es a.1 in
    let e : Edition = b.0 in
    let w = row-none (end_of 0 r) r a.0 in
    let is : r ≡ header_row e = whole-row r (header e) (edition-take r.bytes e b.1) w.whole in
    let place : end_of 0 r ≡ 18 = ap (end_of 0) is ∙ first-place e in
    let s = second e 18 rs h es (ap (λ p. procs_from e p rs) (sym place) ∙ b.2) in
    let v = row-none (end_of 18 s.first) s.first s.fine in
    let p = procs-take s.first.bytes s.head.procs s.procs_is in
    let row : s.first ≡ procs_row s.head.procs = whole-row s.first (procs_line s.head.procs) p.spelled v.whole in
    let end : end_of 18 s.first ≡ length (head_lines s.head) = second-place s.first s.head row in
    let t = entries-take s.head h s.more es 3 (end_of 18 s.first) 0 v.fits (omega arith) s.said in
    let P : Head → Type 0 = λ h. HeadTook (r ∷ rs) h es in
    subst P t.head_is (record {
      lines = ap (λ r. r ∷ rs) is ∙ ap (λ e. header_row e ∷ rs) (sym s.edition_is)
          ∙ ap (λ rs. header_row s.head.edition ∷ rs) (s.lines ∙ ap (λ r. r ∷ s.more) row ∙ ap (λ rs. procs_row s.head.procs ∷ rs) t.lines);
      head = (p.some, p.few);
      fits = t.fits;
      bytes_fit = (let f = t.bytes_fit in omega (arith, end, f));
      steps_fit = (let f = t.steps_fit in omega (arith, f));
    })

-- what is read without a fault is a text
pub text-take : (bytes : List ℕ) (h : Head) (es : List Entry) → read_text bytes ≡ Reads h es → IsText bytes h es
text-take bytes h es said =
    let t = head-take (rows bytes) h es said in
    let spelled : bytes ≡ text h es = sym (unrows bytes) ∙ ap (flat_map row_bytes) t.lines
    ∙ ap (λ x. (header h.edition ++ codes "\n") ++ ((procs_line h.procs ++ codes "\n") ++ x)) (unrows-entries es)
    ∙ header-joined h.edition (procs_line h.procs ++ codes "\n") (flat_map line es) in
    let l : length bytes ≡ length (head_lines h) + length (flat_map line es) = ap length spelled ∙ text-length h es in
    record { spelled = spelled; head = t.head; fits = t.fits; bytes_fit = (let f = t.bytes_fit in omega (arith, l, f)); steps_fit = t.steps_fit }
