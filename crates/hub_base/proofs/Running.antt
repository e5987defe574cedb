-- The lines of entries are read as these entries, and nothing else is.
use Rattle.std.proofs.Common.{◌≡◌, ℕ, ◌+◌, ◌≤◌, Bool, true, false, cond, List, [], ◌∷◌, ◌++◌, length, map, refl, ap, ◌∙◌}
use Rattle.std.proofs.Common.{sym, subst, Option, Some, None, Result, Ok, Err, arith, codes, not, ◌&&◌, length-append}
use Rattle.std.proofs.lemmas.Grind.{common_steps}
use Rattle.std.specs.Prelude.{nat_lt, nat_le}
use Rattle.std.specs.List.{join_with_byte, AllByRecursion, flat_map}
use Rattle.hub_base.specs.Entry.{Entry}
use Rattle.hub_base.specs.declared.head.Edition.{Edition}
use Rattle.hub_base.specs.declared.head.Head.{Head}
use Rattle.hub_base.specs.declared.read_fault.Kind.{Kind}
use Rattle.hub_base.specs.declared.limits.TheConstants.{MOST_STEPS, MOST_BYTES}
use Rattle.hub_base.specs.declared.read_fault.Kind.TheVariants.{CutLine, TooLong}
use Rattle.std.proofs.Common.{◌⊎◌, inl, inr}
use Rattle.hub_base.specs.Lines.{read_fields, pieces, line}
use Rattle.hub_base.specs.Reading.{Row, Reading, Reads, Faulty, entries_from, row_fault, faulty_or}
use Rattle.hub_base.specs.Reading.{end_of, over, counted, HasEntry, with_entry, entry_says, is_exit}
use Rattle.hub_base.specs.Reading.{behind}
use Rattle.hub_base.specs.Text.{Fits, fields_of, body, row_of, one_step, steps_of, EntryFails, entry_fault, first_fault, fault_of_entry}
use Rattle.hub_base.proofs.Bodies.{body-again}
use Rattle.hub_base.proofs.Takes.{fields-take}
use Rattle.hub_base.proofs.Numerals.{joined-pieces}

within-limit : (n : ℕ) → n ≤ MOST_BYTES → nat_lt MOST_BYTES n ≡ false
within-limit n h = grind (arith, common_steps)

-- nothing is wrong with a whole line within the limit of bytes, before it is read
pub row-fine : (end : ℕ) (b : List ℕ) → end ≤ MOST_BYTES → row_fault end (record { bytes = b; whole = true }) ≡ None
row-fine end b h = ap (λ t. cond t (Some TooLong) None) (within-limit end h)

behind-nil : (x : Reading) → x ≡ behind [] x
behind-nil (Reads head es) = refl
behind-nil (Faulty k kind) = refl

with-behind : (e : Entry) (es : List Entry) (x : Reading) → with_entry e (behind es x) ≡ behind (e ∷ es) x
with-behind e es (Reads head fs) = refl
with-behind e es (Faulty k kind) = refl

not-over : (x : Bool) (steps : ℕ) → steps + cond x 0 1 ≤ MOST_STEPS → (not x && nat_le MOST_STEPS steps) ≡ false
not-over true steps h = refl
not-over false steps h = grind (arith, common_steps)

count : (x : Bool) (steps : ℕ) → cond x steps (steps + 1) ≡ steps + cond x 0 1
count true steps = omega arith
count false steps = refl

line-length : (e : Entry) → length (line e) ≡ length (body e) + 1
line-length e = length-append (body e) (codes "\n")

same-from : (head : Head) (k k' start start' steps steps' : ℕ) (rs : List Row) → k ≡ k' → start ≡ start' → steps ≡ steps'
    → entries_from head k start steps rs ≡ entries_from head k' start' steps' rs
same-from head k k' start start' steps steps' rs a b c = ap (λ k. entries_from head k start steps rs) a
    ∙ ap (λ start. entries_from head k' start steps rs) b ∙ ap (λ steps. entries_from head k' start' steps rs) c

-- lines of entries are read as these, and the lines behind them go on
pub entries-again : (head : Head) (es : List Entry) (rest : List Row) (k start steps k' start' steps' : ℕ) → AllByRecursion (Fits head.edition) es →
    k' ≡ k + length es → start' ≡ start + length (flat_map line es) → steps' ≡ steps + steps_of es → start' ≤ MOST_BYTES → steps' ≤ MOST_STEPS →
    entries_from head k start steps (map row_of es ++ rest) ≡ behind es (entries_from head k' start' steps' rest)
entries-again head [] rest k start steps k' start' steps' fits a b c lim most =
    same-from head k k' start start' steps steps' rest (omega arith) (omega arith) (omega arith) ∙ behind-nil (entries_from head k' start' steps' rest)
entries-again head (e ∷ es) rest k start steps k' start' steps' fits a b c lim most =
    let end = start + length (body e) + 1 in
    let all : length (flat_map line (e ∷ es)) ≡ length (line e) + length (flat_map line es) = length-append (line e) (flat_map line es) in
    let here : length (line e) ≡ length (body e) + 1 = line-length e in
    let goes : Entry → Reading = λ f. entries_from head (k + 1) end (counted steps f) (map row_of es ++ rest) in
    let small : end ≤ MOST_BYTES = omega (arith, all, here) in
    let few : over steps e ≡ false = not-over (is_exit e.step) steps (omega arith) in
    let next : counted steps e ≡ steps + one_step e = count (is_exit e.step) steps in
    ap (faulty_or k (entry_says k steps (read_fields head.edition (pieces 32 (body e))) goes)) (row-fine end (body e) small)
    ∙ ap (λ r. entry_says k steps r goes) (body-again head.edition e fits.0)
    ∙ ap (λ t. cond t (Faulty k TooLong) (with_entry e (goes e))) few
    ∙ ap (λ s. with_entry e (entries_from head (k + 1) end s (map row_of es ++ rest))) next
    ∙ ap (with_entry e) (entries-again head es rest (k + 1) end (steps + one_step e) k' start' steps' fits.1 (omega arith)
    (omega (arith, all, here)) (omega arith) lim most)
    ∙ with-behind e es (entries_from head k' start' steps' rest)

-- ---- and back
pub record Took (head : Head) (start steps : ℕ) (rs : List Row) (other : Head) (es : List Entry) : Type 0 where
  pub head_is : head ≡ other
  pub lines : rs ≡ map row_of es
  pub fits : AllByRecursion (Fits head.edition) es
  pub bytes_fit : start + length (flat_map line es) ≤ MOST_BYTES
  pub steps_fit : steps + steps_of es ≤ MOST_STEPS

-- a journal is said only where the line itself is fine
pub said-reads : (k : ℕ) (said : Reading) (o : Option Kind) (other : Head) (es : List Entry) → faulty_or k said o ≡ Reads other es
    → (o ≡ None) × (said ≡ Reads other es)
said-reads k said None other es h = (refl, h)
said-reads k said (Some kind) other es h = cc

fault-none : (a w : Bool) → cond a (Some TooLong) (cond w None (Some CutLine)) ≡ None → (a ≡ false) × (w ≡ true)
fault-none true w h = cc
fault-none false true h = (refl, refl)
fault-none false false h = cc

limit-of : (n : ℕ) → nat_lt MOST_BYTES n ≡ false → n ≤ MOST_BYTES
limit-of n h = grind (arith, common_steps)

-- a line with its newline, within the limit of bytes
pub record Whole (end : ℕ) (r : Row) : Type 0 where
  pub fits : end ≤ MOST_BYTES
  pub whole : r.whole ≡ true

-- a line of which nothing is wrong before it is read
pub row-none : (end : ℕ) (r : Row) → row_fault end r ≡ None → Whole end r
row-none end r h = let o = fault-none (nat_lt MOST_BYTES end) r.whole h in record { fits = limit-of end o.0; whole = o.1 }

-- a line that was read as an entry, and what the lines behind it said
pub record Went (steps : ℕ) (res : Result Entry Kind) (goes : Entry → Reading) (other : Head) (es : List Entry) : Type 0 where
  pub e : Entry
  pub rest : List Entry
  pub read : res ≡ Ok e
  pub few : over steps e ≡ false
  pub later : goes e ≡ Reads other rest
  pub is : e ∷ rest ≡ es

with-reads : (e : Entry) (x : Reading) (other : Head) (es : List Entry) → with_entry e x ≡ Reads other es
    → (rest : List Entry) × (x ≡ Reads other rest) × (e ∷ rest ≡ es)
with-reads e (Reads head rest) other es h = let is : head ≡ other = cc in (rest, ap (λ head. Reads head rest) is, cc)
with-reads e (Faulty k kind) other es h = cc

not-faulty : (b : Bool) (k : ℕ) (x : Reading) (other : Head) (es : List Entry) → cond b (Faulty k TooLong) x ≡ Reads other es
    → (b ≡ false) × (x ≡ Reads other es)
not-faulty true k x other es h = cc
not-faulty false k x other es h = (refl, h)

went : (k steps : ℕ) (res : Result Entry Kind) (goes : Entry → Reading) (other : Head) (es : List Entry)
    → entry_says k steps res goes ≡ Reads other es → Went steps res goes other es
went k steps (Err kind) goes other es h = cc
went k steps (Ok e) goes other es h =
    let a = not-faulty (over steps e) k (with_entry e (goes e)) other es h in
    let b = with-reads e (goes e) other es a.1 in
    record { e = e; rest = b.0; read = refl; few = a.0; later = b.1; is = b.2 }

few-steps : (x : Bool) (steps : ℕ) → steps ≤ MOST_STEPS → (not x && nat_le MOST_STEPS steps) ≡ false → steps + cond x 0 1 ≤ MOST_STEPS
few-steps true steps lim h = omega arith
few-steps false steps lim h = grind (arith, common_steps)

bytes-are : (bs : List ℕ) (e : Entry) → pieces 32 bs ≡ fields_of e → bs ≡ body e
bytes-are bs e fields = sym (joined-pieces 32 bs) ∙ ap (join_with_byte 32) fields

-- a line whose fields spell an entry is that entry's line
pub row-is : (r : Row) (e : Entry) → r.whole ≡ true → pieces 32 r.bytes ≡ fields_of e → r ≡ row_of e
row-is r e whole fields = ap (λ b. record { bytes = b; whole = r.whole }) (bytes-are r.bytes e fields) ∙ ap (λ w. record { bytes = body e; whole = w }) whole

-- and ends where it ends
pub end-is : (start : ℕ) (r : Row) (e : Entry) → r ≡ row_of e → end_of start r ≡ start + length (line e)
end-is start r e is = let l = line-length e in ap (end_of start) is ∙ (omega (arith, l))

-- what is read without a fault is lines of entries, within the limits
pub entries-take : (head other : Head) (rs : List Row) (es : List Entry) (k start steps : ℕ) → start ≤ MOST_BYTES → steps ≤ MOST_STEPS
    → entries_from head k start steps rs ≡ Reads other es → Took head start steps rs other es
entries-take head other [] es k start steps lim most h =
    let P : List Entry → Type 0 = Took head start steps [] other in
    let none : [] ≡ es = cc in
    let head_is : head ≡ other = cc in
    subst P none (record { head_is = head_is; lines = refl; fits = tt; bytes_fit = omega arith; steps_fit = omega arith })
entries-take head other (r ∷ rs) es k start steps lim most h =
    let goes : Entry → Reading = λ e. entries_from head (k + 1) (end_of start r) (counted steps e) rs in
    let a = said-reads k (entry_says k steps (read_fields head.edition (pieces 32 r.bytes)) goes) (row_fault (end_of start r) r) other es h in
    let w = row-none (end_of start r) r a.0 in
    let g = went k steps (read_fields head.edition (pieces 32 r.bytes)) goes other es a.1 in
    let spells = fields-take head.edition (pieces 32 r.bytes) g.e g.read in
    let here : r ≡ row_of g.e = row-is r g.e w.whole spells.0 in
    let end : end_of start r ≡ start + length (line g.e) = end-is start r g.e here in
    let next : counted steps g.e ≡ steps + one_step g.e = count (is_exit g.e.step) steps in
    let some : steps + one_step g.e ≤ MOST_STEPS = few-steps (is_exit g.e.step) steps most g.few in
    let t = entries-take head other rs g.rest (k + 1) (end_of start r) (counted steps g.e) w.fits (omega (arith, next, some)) g.later in
    let all : length (flat_map line (g.e ∷ g.rest)) ≡ length (line g.e) + length (flat_map line g.rest) = length-append (line g.e) (flat_map line g.rest) in
    let P : List Entry → Type 0 = Took head start steps (r ∷ rs) other in
    subst P g.is (record {
      head_is = t.head_is;
      lines = ap (λ r. r ∷ rs) here ∙ ap (λ rs. row_of g.e ∷ rs) t.lines;
      fits = (spells.1, t.fits);
      bytes_fit = (let f = t.bytes_fit in omega (arith, all, end, f));
      steps_fit = (let f = t.steps_fit in omega (arith, next, f));
    })

-- ---- a faulty line
pub record GoesOn (steps k : ℕ) (o : Option Kind) (res : Result Entry Kind) (goes : Entry → Reading) (faulty : ℕ) (kind : Kind) : Type 0 where
  pub e : Entry
  pub fine : o ≡ None
  pub read : res ≡ Ok e
  pub few : over steps e ≡ false
  pub later : goes e ≡ Faulty faulty kind

-- the fault stands in this line
abbrev pub Here : ℕ → ℕ → Option Kind → Result Entry Kind → ℕ → Kind → Type 0
Here steps k o res faulty kind = (first_fault o (fault_of_entry steps res) ≡ Some kind) × (k ≡ faulty)

with-faulty : (e : Entry) (x : Reading) (k : ℕ) (kind : Kind) → with_entry e x ≡ Faulty k kind → x ≡ Faulty k kind
with-faulty e (Reads head es) k kind h = cc
with-faulty e (Faulty j other) k kind h = h

ended-here : (b : Bool) (k faulty : ℕ) (kind : Kind) (x : Reading) → cond b (Faulty k TooLong) x ≡ Faulty faulty kind
    → ((cond b (Some TooLong) None ≡ Some kind) × (k ≡ faulty)) ⊎ ((b ≡ false) × (x ≡ Faulty faulty kind))
ended-here true k faulty kind x h = inl (let same : TooLong ≡ kind = cc in ap (λ k. Some k) same, cc)
ended-here false k faulty kind x h = inr (refl, h)

-- a fault stands in this line, or in those behind a line that was read
pub at-first : (k steps : ℕ) (o : Option Kind) (res : Result Entry Kind) (goes : Entry → Reading) (faulty : ℕ) (kind : Kind)
    → faulty_or k (entry_says k steps res goes) o ≡ Faulty faulty kind → Here steps k o res faulty kind ⊎ GoesOn steps k o res goes faulty kind
at-first k steps (Some other) res goes faulty kind h = inl (let same : other ≡ kind = cc in ap (λ k. Some k) same, cc)
at-first k steps None (Err other) goes faulty kind h = inl (let same : other ≡ kind = cc in ap (λ k. Some k) same, cc)
at-first k steps None (Ok e) goes faulty kind h =
    elim (ended-here (over steps e) k faulty kind (with_entry e (goes e)) h) [
      | inl a ↦ inl a
      | inr a ↦ inr (record { e = e; fine = refl; read = refl; few = a.0; later = with-faulty e (goes e) faulty kind a.1 })
    ]

fault-at : (ed : Edition) (place place' steps steps' : ℕ) (r : Row) (kind : Kind) → place ≡ place' → steps ≡ steps' → entry_fault ed place steps r ≡ Some kind
    → entry_fault ed place' steps' r ≡ Some kind
fault-at ed place place' steps steps' r kind a b h = sym (ap (λ p. entry_fault ed p steps r) a ∙ ap (λ s. entry_fault ed place' s r) b) ∙ h

-- where reading stops at a fault there stand lines of entries, and then a faulty line
pub entries-fail : (head : Head) (rs : List Row) (k start steps faulty : ℕ) (kind : Kind) → start ≤ MOST_BYTES → steps ≤ MOST_STEPS
    → entries_from head k start steps rs ≡ Faulty faulty kind → EntryFails head.edition start steps k rs faulty kind
entries-fail head [] k start steps faulty kind lim most h = cc
entries-fail head (r ∷ rs) k start steps faulty kind lim most h =
    let goes : Entry → Reading = λ e. entries_from head (k + 1) (end_of start r) (counted steps e) rs in
    let res = read_fields head.edition (pieces 32 r.bytes) in
    elim (at-first k steps (row_fault (end_of start r) r) (read_fields head.edition (pieces 32 r.bytes)) goes faulty kind h)
    as (λ _. EntryFails head.edition start steps k (r ∷ rs) faulty kind) [
      | inl a ↦ (let is = a.1 in record {
        es = [];
        bad = r;
        more = rs;
        lines = refl;
        count = (omega (arith, is));
        fits = tt;
        bytes_fit = omega arith;
        steps_fit = omega arith;
        fault = fault-at head.edition start (start + length {A = ℕ} []) steps (steps + 0) r kind (omega arith) (omega arith) a.0;
      })
      | inr g ↦ (
          let w = row-none (end_of start r) r g.fine in
          let spells = fields-take head.edition (pieces 32 r.bytes) g.e g.read in
          let here : r ≡ row_of g.e = row-is r g.e w.whole spells.0 in
          let end : end_of start r ≡ start + length (line g.e) = end-is start r g.e here in
          let next : counted steps g.e ≡ steps + one_step g.e = count (is_exit g.e.step) steps in
          let some : steps + one_step g.e ≤ MOST_STEPS = few-steps (is_exit g.e.step) steps most g.few in
          let t = entries-fail head rs (k + 1) (end_of start r) (counted steps g.e) faulty kind w.fits (omega (arith, next, some)) g.later in
          let all : length (flat_map line (g.e ∷ t.es)) ≡ length (line g.e) + length (flat_map line t.es) = length-append (line g.e) (flat_map line t.es) in
          record {
            es = g.e ∷ t.es;
            bad = t.bad;
            more = t.more;
            lines = ap (λ r. r ∷ rs) here ∙ ap (λ rs. row_of g.e ∷ rs) t.lines;
            count = (let c = t.count in omega (arith, c));
            fits = (spells.1, t.fits);
            bytes_fit = (let f = t.bytes_fit in omega (arith, all, end, f));
            steps_fit = (let f = t.steps_fit in omega (arith, next, f));
            fault = fault-at head.edition _ _ _ _ t.bad kind (omega (arith, all, end)) (omega (arith, next)) t.fault;
          })
    ]

over-faulty : (b : Bool) (k : ℕ) (kind : Kind) (x : Reading) → cond b (Some TooLong) None ≡ Some kind → cond b (Faulty k TooLong) x ≡ Faulty k kind
over-faulty true k kind x h = let same : TooLong ≡ kind = cc in ap (Faulty k) same
over-faulty false k kind x h = cc

faulty-again : (k steps : ℕ) (o : Option Kind) (res : Result Entry Kind) (goes : Entry → Reading) (kind : Kind)
    → first_fault o (fault_of_entry steps res) ≡ Some kind → faulty_or k (entry_says k steps res goes) o ≡ Faulty k kind
faulty-again k steps (Some other) res goes kind h = let same : other ≡ kind = cc in ap (Faulty k) same
faulty-again k steps None (Err other) goes kind h = let same : other ≡ kind = cc in ap (Faulty k) same
faulty-again k steps None (Ok e) goes kind h = over-faulty (over steps e) k kind (with_entry e (goes e)) h

-- and where such lines stand, reading stops there
pub entries-fail-again : (head : Head) (rs : List Row) (k start steps faulty : ℕ) (kind : Kind) → EntryFails head.edition start steps k rs faulty kind
    → entries_from head k start steps rs ≡ Faulty faulty kind
entries-fail-again head rs k start steps faulty kind f =
    let place = start + length (flat_map line f.es) in
    let done = steps + steps_of f.es in
    let goes : Entry → Reading = λ e. entries_from head (faulty + 1) (end_of place f.bad) (counted done e) f.more in
    ap (entries_from head k start steps) f.lines
    ∙ entries-again head f.es (f.bad ∷ f.more) k start steps faulty place done f.fits f.count refl refl f.bytes_fit f.steps_fit
    ∙ ap (behind f.es) (faulty-again faulty done (row_fault (end_of place f.bad) f.bad) (read_fields head.edition (pieces 32 f.bad.bytes)) goes kind f.fault)

-- ---- the first entry
-- a fault stands in the first of the lines that are read or behind it
fault-later : (head : Head) (k start steps : ℕ) (rs : List Row) (faulty : ℕ) (kind : Kind) → start ≤ MOST_BYTES → steps ≤ MOST_STEPS
    → entries_from head k start steps rs ≡ Faulty faulty kind → k ≤ faulty
fault-later head k start steps rs faulty kind lim most h = let c = (entries-fail head rs k start steps faulty kind lim most h).count in omega (arith, c)

-- where an entry is read that stands behind the head, some entry is said
pub has-entry : (head : Head) (k start steps : ℕ) (rs : List Row) (e : Entry) (said : Reading) → 3 ≤ k → start ≤ MOST_BYTES
    → steps ≤ MOST_STEPS → said ≡ with_entry e (entries_from head (k + 1) start steps rs) → HasEntry said
has-entry head k start steps rs e said behind_head lim most is = subst HasEntry (sym is) (by (entries_from head (k + 1) start steps rs) refl)
  where
    by : (r : Reading) → entries_from head (k + 1) start steps rs ≡ r → HasEntry (with_entry e r)
    by (Reads other es) h = omega arith
    by (Faulty faulty kind) h = omega (arith, behind_head, fault-later head (k + 1) start steps rs faulty kind lim most h)

-- and so it is with more entries before it
pub has-behind : (es : List Entry) (r : Reading) → HasEntry r → HasEntry (behind es r)
has-behind es (Reads head fs) h = omega (arith, h, length-append es fs)
has-behind es (Faulty k kind) h = h
