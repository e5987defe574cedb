-- How a conversation goes on by a piece that has come, line by line.
use Rattle.std.proofs.Common.{◌≡◌, ◌≢◌, ℕ, zero, suc, ◌+◌, ◌-◌, ◌<◌, ◌≤◌, ◌==◌, inl, inr, Bool, true, false, cond, List, [], ◌∷◌, ◌++◌}
use Rattle.std.proofs.Common.{length, take, drop, get_or, refl, ap, ◌∙◌, sym, subst, arith}
use Rattle.std.proofs.Common.{append_assoc, append-nil, length-append, length-drop, take-append-drop, Option, Some, None, vec_len}
use Rattle.std.proofs.lemmas.Grind.{common_steps}
use Rattle.std.specs.Prelude.{nat_lt}
use Rattle.std.specs.Option.{is_some}
use Rattle.memchr.specs.Find.{Nowhere, NoneBefore, Passes, is_byte}
use Rattle.hub_base.specs.declared.limits.TheConstants.{MOST_BYTES}
use Rattle.hub_base.specs.declared.read_fault.Kind.TheVariants.{TooLong, CutLine, BadProcs}
use Rattle.hub_base.specs.declared.read_fault.TextFault.{TextFault}
use Rattle.hub_base.specs.declared.head.Edition.{Edition}
use Rattle.hub_base.specs.declared.head.Edition.TheVariants.{One, Two, Three}
use Rattle.hub_base.specs.Reading.{Faulty, Row, rows, front, read_text, end_of}
use Rattle.hub_replay.specs.Verify.{newlines_in}
use Rattle.hub_replay.specs.declared.conversation.Conversation.{Conversation}
use Rattle.hub_replay.specs.declared.running.Running.{Running}
use Rattle.hub_replay.specs.Answers.{Tells}
use Rattle.hub_replay.specs.Lines.{IsCut, IsLine, first_line}
use Rattle.hub_replay.specs.Stands.{Stands, Ends, Fails, FailsHere, HearsAll, HearsBefore, Going, IsAt, AtHead, InHead}
use Rattle.hub_replay.proofs.LineEnds.{newlines_in-append, rows-of-line}
use Rattle.hub_replay.proofs.Stages.{row-fails, row-long}

-- ---- newlines
not-true : (b : Bool) → (b ≡ true → ⊥) → b ≡ false
not-true true h = absurd (h refl)
not-true false h = refl

newlines_in-cons : (c : ℕ) (xs : List ℕ) → (c == 10) ≡ false → newlines_in (c ∷ xs) ≡ newlines_in xs
newlines_in-cons c xs h =
    let all = newlines_in-append (c ∷ []) xs in
    let one : newlines_in (c ∷ []) ≡ 0 = ap (λ b. 0 + cond {A = ℕ} b 1 0) h in
    omega (arith, all, one)

none-to : (xs : List ℕ) (i : ℕ) → ((k : ℕ) → k < i → (get_or xs k 0 == 10) ≡ false) → newlines_in (take i xs) ≡ 0
none-to xs zero h = refl
none-to [] (suc i) h = refl
none-to (c ∷ cs) (suc i) h = newlines_in-cons c (take i cs) (h 0 (omega arith)) ∙ none-to cs i (λ k lt. h (suc k) (omega arith))

-- as the search for a newline says it
pub none-before : (bs : List ℕ) (i : ℕ) → Nowhere (Passes (is_byte 10) bs) 0 i → newlines_in (take i bs) ≡ 0
none-before bs i h = none-to bs i (λ k lt. not-true (get_or bs k 0 == 10) (λ e. h k (omega arith) lt e))

pub none-at-all : (bs : List ℕ) → Nowhere (Passes (is_byte 10) bs) 0 (length bs) → newlines_in bs ≡ 0
none-at-all bs h = ap newlines_in (take-whole bs) ∙ none-before bs (length bs) h where
  take-whole : (bs : List ℕ) → bs ≡ take (length bs) bs
  take-whole bs = grind (arith, common_steps)

is-newline : (c : ℕ) → (c == 10) ≡ true → c ≡ 10
is-newline c h = grind (arith, common_steps)

one-more : (bs : List ℕ) (i : ℕ) → i < length bs → take (i + 1) bs ≡ take i bs ++ get_or bs i 0 ∷ []
one-more bs i lt = grind (arith, common_steps)

-- the bytes up to the first newline are a line
pub line-cut : (bs line rest : List ℕ) (i : ℕ) → NoneBefore (Passes (is_byte 10) bs) 0 (length bs) i × Passes (is_byte 10) bs i
    → line ≡ take (i + 1) bs → rest ≡ drop (i + 1) bs → IsCut bs line rest
line-cut bs line rest i h front back =
    let here : get_or bs i 0 ≡ 10 = is-newline (get_or bs i 0) h.1 in
    record {
      body = take i bs;
      is = sym (take-append-drop (i + 1) bs) ∙ ap (λ l. l ++ drop (i + 1) bs) (sym front) ∙ ap (λ l. line ++ l) (sym back);
      whole = record {
        is = front ∙ one-more bs i h.0.high ∙ ap (λ c. take i bs ++ c ∷ []) here;
        one = none-before bs i h.0.before;
      };
    }

-- what came of a line, and its end
pub line-comes : (rest line body : List ℕ) → newlines_in rest ≡ 0 → IsLine line body → IsLine (rest ++ line) (rest ++ body)
line-comes rest line body none at = record {
  is = ap (λ l. rest ++ l) at.is ∙ sym (append_assoc rest body (10 ∷ []));
  one = (let all = newlines_in-append rest body in let own = at.one in omega (arith, all, none, own));
}

-- ---- rows of a line that is not whole
front-length : (c : ℕ) (rs : List Row) → (r : Row) × (ss : List Row) × (front c rs ≡ r ∷ ss) × (1 ≤ length r.bytes)
front-length c [] = (record { bytes = c ∷ []; whole = false }, [], refl, omega arith)
front-length c (r ∷ rs) = (record { bytes = c ∷ r.bytes; whole = r.whole }, rs, refl, omega arith)

first-by : (b : Bool) (n : ℕ) → (0 + cond {A = ℕ} b 1 0) + n ≡ 0 → (b ≡ false) × (n ≡ 0)
first-by true n h = absurd (omega arith)
first-by false n h = (refl, omega arith)

parts-none : (c : ℕ) (cs : List ℕ) → newlines_in (c ∷ cs) ≡ 0 → ((c == 10) ≡ false) × (newlines_in cs ≡ 0)
parts-none c cs h = first-by (c == 10) (newlines_in cs) (sym (newlines_in-append (c ∷ []) cs) ∙ h)

-- the first row has at least these bytes
pub first-long : (rest more : List ℕ) → newlines_in rest ≡ 0 → 0 < length rest
    → (r : Row) × (rs : List Row) × (rows (rest ++ more) ≡ r ∷ rs) × (length rest ≤ length r.bytes)
first-long [] more none some = absurd (omega arith)
first-long (c ∷ []) more none some =
    let (r, rs, is, long) = front-length c (rows more) in
    (r, rs, rw ((parts-none c [] none).0) is, long)
first-long (c ∷ d ∷ cs) more none some =
    let both = parts-none c (d ∷ cs) none in
    let (r, rs, is, long) = first-long (d ∷ cs) more both.1 (omega arith) in (
      record { bytes = c ∷ r.bytes; whole = r.whole },
      rs,
      rw (both.0) (ap (front c) is),
      omega (arith, long),
    )

-- and with nothing behind them it is a row that has no end
pub rows-cut : (rest : List ℕ) → newlines_in rest ≡ 0 → 0 < length rest → rows rest ≡ record { bytes = rest; whole = false } ∷ []
rows-cut [] none some = absurd (omega arith)
rows-cut (c ∷ []) none some = rw ((parts-none c [] none).0) refl
rows-cut (c ∷ d ∷ cs) none some =
    let both = parts-none c (d ∷ cs) none in rw (both.0) (ap (front c) (rows-cut (d ∷ cs) both.1 (omega arith)))

within-limit : (n : ℕ) → n ≤ MOST_BYTES → nat_lt MOST_BYTES n ≡ false
within-limit n h = grind (arith, common_steps)

empty-by : (xs : List ℕ) → length xs ≡ 0 → xs ≡ []
empty-by [] h = refl
empty-by (x ∷ xs) h = absurd (omega arith)

alone : (e : Edition) → read_text (first_line e ++ []) ≡ Faulty 2 BadProcs
alone One = refl
alone Two = refl
alone Three = refl

pub none-there : (o : Option Running) → is_some o ≡ false → o ≡ None
none-there None h = refl
none-there (Some r) h = cc

past-by : (b : Bool) (n m : ℕ) → MOST_BYTES < n + m → MOST_BYTES < n + m + cond {A = ℕ} b 1 0
past-by true n m h = omega arith
past-by false n m h = omega arith

past : (start : ℕ) (row : Row) → MOST_BYTES < start + length row.bytes → MOST_BYTES < end_of start row
past start row h = past-by row.whole start (length row.bytes) h

-- ---- faults by length and by end
module _ (c : Conversation) (lines rest said : List ℕ) (stands : Stands lines rest said c) where
  pub rest-length : length rest ≡ vec_len c.text - c.front
  rest-length = let ok = c.text.ok in let l = sym (ap length stands.rest_is) ∙ length-drop c.front c.text.items in omega (arith, ok, l)

  -- a whole line
  pub line-long : (body : List ℕ) → IsLine rest body → MOST_BYTES < c.place + (vec_len c.text - c.front) → (f : TextFault)
      → f.line ≡ c.line → f.kind ≡ TooLong → Fails lines rest f
  line-long body at over f line kind =
      let row : Row = record { bytes = body; whole = true } in
      let last : length rest ≡ length body + 1 = ap length at.is ∙ length-append body (10 ∷ []) in
      let l = rest-length in
      let p = stands.place in
      record {
        fails = λ more.
            ap read_text (append_assoc lines rest more)
            ∙ row-fails c.running c.line lines (take c.front c.text.items) said (rest ++ more) row (rows more) TooLong stands.at
            (rows-of-line rest body more at) (row-long (length lines + length body + 1) row (omega (arith, last, l, p, over)))
            ∙ ap (λ k. Faulty k TooLong) (sym line) ∙ ap (Faulty f.line) (sym kind);
        number = line ∙ stands.number;
      }

  -- one that is not whole yet
  pub rest-long : newlines_in rest ≡ 0 → MOST_BYTES < c.place + (vec_len c.text - c.front) → c.place ≤ MOST_BYTES → (f : TextFault)
      → f.line ≡ c.line → f.kind ≡ TooLong → Fails lines rest f
  rest-long none over within f line kind =
      let l = rest-length in
      let p = stands.place in
      record {
        fails = λ more.
            (let (row, rs, is, long) = first-long rest more none (omega (arith, l, over, within)) in
            ap read_text (append_assoc lines rest more)
            ∙ row-fails c.running c.line lines (take c.front c.text.items) said (rest ++ more) row rs TooLong stands.at is
            (row-long (end_of (length lines) row) row (past (length lines) row (omega (arith, l, p, over, long)))))
            ∙ ap (λ k. Faulty k TooLong) (sym line) ∙ ap (Faulty f.line) (sym kind);
        number = line ∙ stands.number;
      }

  -- where no more comes
  pub rest-cut : newlines_in rest ≡ 0 → c.front < vec_len c.text → c.place + (vec_len c.text - c.front) ≤ MOST_BYTES → (f : TextFault)
      → f.line ≡ c.line → f.kind ≡ CutLine → FailsHere lines rest f
  rest-cut none some fits f line kind =
      let l = rest-length in
      let p = stands.place in
      let row : Row = record { bytes = rest; whole = false } in
      let fine : nat_lt MOST_BYTES (length lines + length rest + 0) ≡ false = within-limit (length lines + length rest + 0) (omega (arith, l, p, fits)) in
      record {
        fails = row-fails c.running c.line lines (take c.front c.text.items) said rest row [] CutLine stands.at
            (rows-cut rest none (omega (arith, l, some))) (ap (λ b. cond b (Some TooLong) (Some CutLine)) fine)
            ∙ ap (λ k. Faulty k CutLine) (sym line) ∙ ap (Faulty f.line) (sym kind);
        number = line ∙ stands.number;
      }

  second-missing : InHead c.line lines → c.line ≢ 1 → read_text (lines ++ []) ≡ Faulty c.line BadProcs
  second-missing (inl first) other = absurd (other first.0)
  second-missing (inr (edition, two, is)) other =
      ap (λ l. read_text (l ++ [])) is ∙ alone edition ∙ ap (λ k. Faulty k BadProcs) (sym two)

  -- and the second line is missing
  pub no-second : c.running ≡ None → c.line ≢ 1 → vec_len c.text ≤ c.front → (f : TextFault) → f.line ≡ c.line → f.kind ≡ BadProcs
      → FailsHere lines rest f
  no-second is other none f line kind =
      let at : AtHead c.line lines (take c.front c.text.items) said = subst (λ o. IsAt o c.line lines (take c.front c.text.items) said) is stands.at in
      let l = rest-length in
      record {
        fails = ap (λ r. read_text (lines ++ r)) (empty-by rest (omega (arith, l, none))) ∙ second-missing at.head other
            ∙ ap (λ k. Faulty k BadProcs) (sym line) ∙ ap (Faulty f.line) (sym kind);
        number = line ∙ stands.number;
      }

-- no line stands, or those that were heard are answered
pub tells : (c : Conversation) (lines rest said : List ℕ) → Stands lines rest said c → Tells lines said
tells c lines rest said stands = go c.running stands.at where
  head-tells : InHead c.line lines → said ≡ [] → Tells lines said
  head-tells (inl (one, none)) silent = inr (inl none, silent)
  head-tells (inr (edition, two, first)) silent = inr (inr (edition, first), silent)

  go : (o : Option Running) → IsAt o c.line lines (take c.front c.text.items) said → Tells lines said
  go None at = head-tells at.head at.silent
  go (Some running) at = inl (record { head = at.head; entries = at.entries; spelled = at.text; lines = at.told })

-- ---- one line more of a piece
module _ {lines rest said piece left line behind old new : List ℕ} {c : Conversation}
    (going : Going lines rest said piece left old new c) (cut : IsCut left line behind) where
  came : List ℕ
  came = going.rest_now ++ line

  pub is-line : IsLine (going.rest_now ++ line) (going.rest_now ++ cut.body)
  is-line = line-comes going.rest_now line cut.body going.whole cut.whole

  -- where the line ends in what was heard
  heard-is : (lines ++ rest) ++ piece ≡ (going.lines_now ++ (going.rest_now ++ line)) ++ behind
  heard-is =
      going.parts ∙ ap (λ l. (going.lines_now ++ going.rest_now) ++ l) cut.is
      ∙ append_assoc going.lines_now going.rest_now (line ++ behind)
      ∙ ap (λ l. going.lines_now ++ l) (sym (append_assoc going.rest_now line behind))
      ∙ sym (append_assoc going.lines_now (going.rest_now ++ line) behind)

  pub line-answered : {c' : Conversation} {new' : List ℕ} → Ends going.lines_now (going.rest_now ++ line) (said ++ going.more) new new' c' None
      → Going lines rest said piece behind old new' c'
  line-answered {c'} (more, is, stands) = record {
    lines_now = going.lines_now ++ (going.rest_now ++ line);
    rest_now = [];
    more = going.more ++ more;
    parts = heard-is ∙ ap (λ l. l ++ behind) (sym (append-nil (going.lines_now ++ (going.rest_now ++ line))));
    whole = refl;
    said_now = is ∙ ap (λ l. l ++ more) going.said_now ∙ append_assoc old going.more more;
    stands = let P : List ℕ → Type 0 = λ s. Stands (going.lines_now ++ (going.rest_now ++ line)) [] s c' in subst P (append_assoc said going.more more) stands;
  }

  pub line-faulty : {new' : List ℕ} (fault : TextFault) → Fails going.lines_now (going.rest_now ++ line) fault × (new' ≡ new)
      → HearsBefore lines rest said piece old new' fault
  line-faulty fault (fails, same) = record {
    lines_now = going.lines_now;
    rest_now = (going.rest_now ++ line) ++ behind;
    more = going.more;
    parts = heard-is ∙ append_assoc going.lines_now (going.rest_now ++ line) behind;
    said_now = same ∙ going.said_now;
    told = tells c going.lines_now going.rest_now (said ++ going.more) going.stands;
    fails = record {
      fails = λ more.
          ap read_text (ap (λ l. l ++ more) (sym (append_assoc going.lines_now (going.rest_now ++ line) behind))
          ∙ append_assoc (going.lines_now ++ (going.rest_now ++ line)) behind more) ∙ fails.fails (behind ++ more);
      number = fails.number;
    };
  }

-- ---- the end of a piece
module _ {lines rest said piece left old new : List ℕ} {c : Conversation} (going : Going lines rest said piece left old new c)
    (none : newlines_in left ≡ 0) (c' : Conversation) (stands : Stands going.lines_now (going.rest_now ++ left) (said ++ going.more) c') where
  all-parts : (lines ++ rest) ++ piece ≡ going.lines_now ++ (going.rest_now ++ left)
  all-parts = going.parts ∙ append_assoc going.lines_now going.rest_now left

  all-none : newlines_in (going.rest_now ++ left) ≡ 0
  all-none = let all = newlines_in-append going.rest_now left in let own = going.whole in omega (arith, all, own, none)

  pub piece-heard : c'.place + (vec_len c'.text - c'.front) ≤ MOST_BYTES → HearsAll lines rest said piece old new c'
  piece-heard fits = record {
    lines_now = going.lines_now;
    rest_now = going.rest_now ++ left;
    more = going.more;
    parts = all-parts;
    whole = all-none;
    said_now = going.said_now;
    stands = stands;
    fits = (let l = rest-length c' going.lines_now (going.rest_now ++ left) (said ++ going.more) stands in let p = stands.place in
        let all = length-append going.lines_now (going.rest_now ++ left) in omega (arith, l, p, all, fits));
  }

  pub piece-long : MOST_BYTES < c'.place + (vec_len c'.text - c'.front) → c'.place ≤ MOST_BYTES → (f : TextFault) → f.line ≡ c'.line
      → f.kind ≡ TooLong → HearsBefore lines rest said piece old new f
  piece-long over within f line kind = record {
    lines_now = going.lines_now;
    rest_now = going.rest_now ++ left;
    more = going.more;
    parts = all-parts;
    said_now = going.said_now;
    told = tells c' going.lines_now (going.rest_now ++ left) (said ++ going.more) stands;
    fails = rest-long c' going.lines_now (going.rest_now ++ left) (said ++ going.more) stands all-none over within f line kind;
  }
