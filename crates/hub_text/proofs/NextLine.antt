-- What a reader does with the next line, where it is whole and within the limit of bytes.
use Rattle.std.proofs.Common.{◌≡◌, ℕ, ◌+◌, ◌<◌, ◌≤◌, Bool, true, false, cond, List, ◌∷◌, length, ap, ◌∙◌, sym, subst, arith}
use Rattle.std.proofs.Common.{Result, Ok, not, ◌&&◌}
use Rattle.std.proofs.lemmas.Grind.{common_steps}
use Rattle.std.specs.Borrow.{Bor}
use Rattle.std.specs.Prelude.{nat_le}
use Rattle.hub_base.specs.Entry.{Entry}
use Rattle.hub_base.specs.declared.limits.TheConstants.{MOST_STEPS, MOST_BYTES}
use Rattle.hub_base.specs.declared.read_fault.Kind.{Kind}
use Rattle.hub_base.specs.declared.read_fault.Kind.TheVariants.{TooLong}
use Rattle.hub_base.proofs.Running.{row-fine}
use Rattle.hub_text.specs.declared.reader.Reader.TheInside.{Inside}
use Rattle.hub_base.specs.Lines.{read_fields, pieces}
use Rattle.hub_base.specs.Reading.{Row, Reading, Faulty, rows, faulty_or, entries_from, entry_says, with_entry, is_exit, over, counted}
use Rattle.hub_text.specs.ReaderKeeps.{left_of}

-- what the fields of the line say decides
pub line-says : (r : Inside) (text : List ℕ) (rs : List Row) (said : Result Entry Kind) → rows r.rest.now ≡ record { bytes = text; whole = true } ∷ rs
    → r.place + length text + 1 ≤ MOST_BYTES → read_fields r.head.edition (pieces 32 text) ≡ said
    → left_of r
    ≡ entry_says r.line r.steps said (λ e. entries_from r.head (r.line + 1) (r.place + length text + 1) (counted r.steps e) rs)
line-says r text rs said cut fits read =
    let goes : Entry → Reading = λ e. entries_from r.head (r.line + 1) (r.place + length text + 1) (counted r.steps e) rs in
    ap (entries_from r.head r.line r.place r.steps) cut
    ∙ ap (faulty_or r.line (entry_says r.line r.steps (read_fields r.head.edition (pieces 32 text)) goes)) (row-fine (r.place + length text + 1) text fits)
    ∙ ap (λ said. entry_says r.line r.steps said goes) read

over-limit : (exit : Bool) (steps : ℕ) → exit ≡ false → MOST_STEPS ≤ steps → (not exit && nat_le MOST_STEPS steps) ≡ true
over-limit true steps counts most = cc
over-limit false steps counts most = grind (arith, common_steps)

-- one step too many
pub too-many : (k steps : ℕ) (e : Entry) (goes : Entry → Reading) → is_exit e.step ≡ false → MOST_STEPS ≤ steps
    → entry_says k steps (Ok e) goes ≡ Faulty k TooLong
too-many k steps e goes counts most =
    ap (λ is_over. cond is_over (Faulty k TooLong) (with_entry e (goes e))) (over-limit (is_exit e.step) steps counts most)

-- the entry is not one step too many; `after` is how many steps stand behind it
pub record Counts (steps after : ℕ) (e : Entry) : Type 0 where
  pub fine : over steps e ≡ false
  pub steps_after : after ≡ counted steps e
  pub within : after ≤ MOST_STEPS

below-limit : (exit : Bool) (steps : ℕ) → exit ≡ false → steps < MOST_STEPS → (not exit && nat_le MOST_STEPS steps) ≡ false
below-limit true steps counts few = cc
below-limit false steps counts few = grind (arith, common_steps)

pub step-counts : (steps : ℕ) (e : Entry) → is_exit e.step ≡ false → steps < MOST_STEPS → Counts steps (steps + 1) e
step-counts steps e counts few = record {
  fine = below-limit (is_exit e.step) steps counts few;
  steps_after = sym (ap (λ exit. cond exit steps (steps + 1)) counts);
  within = omega arith;
}

pub exit-counts : (steps : ℕ) (e : Entry) → is_exit e.step ≡ true → steps ≤ MOST_STEPS → Counts steps steps e
exit-counts steps e exits most = record {
  fine = ap (λ exit. not exit && nat_le MOST_STEPS steps) exits;
  steps_after = sym (ap (λ exit. cond exit steps (steps + 1)) exits);
  within = most;
}

-- the reader behind a line of this text
abbrev pub behind_line : Inside → List ℕ → Bor (List ℕ) → Inside
behind_line r text rest = record { head = r.head; rest = rest; line = r.line + 1; place = r.place + (length text + 1); steps = r.steps }

-- the reader `s` is the reader `r` with the entry's step counted, and goes on behind the entry's line
pub record Next (r s : Inside) (e : Entry) (text : List ℕ) (rest : Bor (List ℕ)) : Type 0 where
  pub read : left_of r ≡ with_entry e (left_of (behind_line s text rest))
  pub head : s.head ≡ r.head
  pub line : s.line ≡ r.line
  pub place : s.place ≡ r.place
  pub steps : s.steps ≤ MOST_STEPS

pub entry-next : (r s : Inside) (e : Entry) (text : List ℕ) (rest : Bor (List ℕ)) (steps : ℕ)
    → rows r.rest.now ≡ record { bytes = text; whole = true } ∷ rows rest.now → r.place + length text + 1 ≤ MOST_BYTES
    → read_fields r.head.edition (pieces 32 text) ≡ Ok e → Counts r.steps steps e
    → s ≡ record { head = r.head; rest = r.rest; line = r.line; place = r.place; steps = steps } → Next r s e text rest
entry-next r s e text rest steps cut fits read count is =
    let goes : Entry → Reading = λ e. entries_from r.head (r.line + 1) (r.place + length text + 1) (counted r.steps e) (rows rest.now) in
    let same : r.place + length text + 1 ≡ r.place + (length text + 1) = omega arith in
    record {
      read = line-says r text (rows rest.now) (Ok e) cut fits read
          ∙ ap (λ is_over. cond is_over (Faulty r.line TooLong) (with_entry e (goes e))) count.fine
          ∙ ap (λ n. with_entry e (entries_from r.head (r.line + 1) (r.place + length text + 1) n (rows rest.now))) (sym count.steps_after)
          ∙ ap (λ place. with_entry e (entries_from r.head (r.line + 1) place steps (rows rest.now))) same
          ∙ ap (λ (s : Inside). with_entry e (left_of (behind_line s text rest))) (sym is);
      head = ap (λ (s : Inside). s.head) is;
      line = ap (λ (s : Inside). s.line) is;
      place = ap (λ (s : Inside). s.place) is;
      steps = subst (λ n. n ≤ MOST_STEPS) (sym (ap (λ (s : Inside). s.steps) is)) count.within;
    }
