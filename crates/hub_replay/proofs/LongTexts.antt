-- Of a text of too many bytes those up to the first that is one too many decide what it says.
use Rattle.std.proofs.Common.{◌≡◌, ℕ, ◌+◌, ◌<◌, ◌≤◌, ◌==◌, Bool, true, false, List, [], ◌∷◌, ◌++◌, length, take, drop, refl, sym}
use Rattle.std.proofs.Common.{ap, subst, ◌∙◌, arith, Option, Some, None, Result, Ok, Err, take-append-drop, length-take}
use Rattle.std.proofs.lemmas.Bool.{lt-ltb}
use Rattle.std.specs.Prelude.{nat_lt, if◌then◌else◌}
use Rattle.hub_base.specs.declared.head.Edition.{Edition}
use Rattle.hub_base.specs.declared.head.Head.{Head}
use Rattle.hub_base.specs.Entry.{Entry}
use Rattle.hub_base.specs.declared.read_fault.Kind.{Kind}
use Rattle.hub_base.specs.declared.read_fault.Kind.TheVariants.{TooLong}
use Rattle.hub_base.specs.declared.limits.TheConstants.{MOST_BYTES}
use Rattle.hub_base.specs.Lines.{pieces, read_fields}
use Rattle.hub_base.specs.Head.{head_of}
use Rattle.hub_base.specs.Reading.{Reading, Faulty, Row, rows, front, end_of, within, faulty_or, entry_says, entries_from}
use Rattle.hub_base.specs.Reading.{counted, over, with_entry, edition_of, edition_says, procs_number, procs_say, procs_from, reading, read_text}

-- the same rows up to one that ends past the limit in both
data Alike : ℕ → List Row → List Row → Type 0 where
  past : (start : ℕ) (r s : Row) (rs ss : List Row) → MOST_BYTES < end_of start r → MOST_BYTES < end_of start s → Alike start (r ∷ rs) (s ∷ ss)
  next : (start : ℕ) (r : Row) (rs ss : List Row) → Alike (end_of start r) rs ss → Alike start (r ∷ rs) (r ∷ ss)

-- a row that ends past the limit is too long
too_long_by : (b : Bool) (k : ℕ) (said : Reading) (other : Option Kind) → b ≡ true → faulty_or k said (if b then Some TooLong else other) ≡ Faulty k TooLong
too_long_by true k said other e = refl
too_long_by false k said other e = cc

too_long : (end k : ℕ) (r : Row) (said : Reading) → MOST_BYTES < end → within end k r said ≡ Faulty k TooLong
too_long end k r said h = too_long_by (nat_lt MOST_BYTES end) k said _ (lt-ltb MOST_BYTES end h)

entry_says-same : (k steps : ℕ) (r : Result Entry Kind) (f g : Entry → Reading) → ((e : Entry) → f e ≡ g e) → entry_says k steps r f ≡ entry_says k steps r g
entry_says-same k steps (Err kind) f g same = refl
entry_says-same k steps (Ok e) f g same = ap (λ said. if over steps e then Faulty k TooLong else with_entry e said) (same e)

entries_from-alike : (head : Head) (k start steps : ℕ) (rs ss : List Row) → Alike start rs ss
    → entries_from head k start steps rs ≡ entries_from head k start steps ss
entries_from-alike head k start steps _ _ (past _ r s rs ss p q) = too_long (end_of start r) k r _ p ∙ sym (too_long (end_of start s) k s _ q)
entries_from-alike head k start steps _ _ (next _ r rs ss h) =
    ap (within (end_of start r) k r) (entry_says-same k steps (read_fields head.edition (pieces 32 r.bytes)) _ _
    (λ e. entries_from-alike head (k + 1) (end_of start r) (counted steps e) rs ss h))

procs_say-alike : (edition : Edition) (o : Option ℕ) (start : ℕ) (rs ss : List Row) → Alike start rs ss
    → procs_say edition o start rs ≡ procs_say edition o start ss
procs_say-alike edition None start rs ss h = refl
procs_say-alike edition (Some n) start rs ss h = entries_from-alike (head_of edition n) 3 start 0 rs ss h

procs_from-alike : (edition : Edition) (start : ℕ) (rs ss : List Row) → Alike start rs ss → procs_from edition start rs ≡ procs_from edition start ss
procs_from-alike edition start _ _ (past _ r s rs ss p q) = too_long (end_of start r) 2 r _ p ∙ sym (too_long (end_of start s) 2 s _ q)
procs_from-alike edition start _ _ (next _ r rs ss h) =
    ap (within (end_of start r) 2 r) (procs_say-alike edition (procs_number r.bytes) (end_of start r) rs ss h)

edition_says-alike : (o : Option Edition) (start : ℕ) (rs ss : List Row) → Alike start rs ss → edition_says o start rs ≡ edition_says o start ss
edition_says-alike None start rs ss h = refl
edition_says-alike (Some edition) start rs ss h = procs_from-alike edition start rs ss h

reading-alike : (rs ss : List Row) → Alike 0 rs ss → reading rs ≡ reading ss
reading-alike _ _ (past _ r s rs ss p q) = too_long (end_of 0 r) 1 r _ p ∙ sym (too_long (end_of 0 s) 1 s _ q)
reading-alike _ _ (next _ r rs ss h) =
    ap (within (end_of 0 r) 1 r) (edition_says-alike (edition_of r.bytes) (end_of 0 r) rs ss h)

-- one byte more before the first row
front-alike : (start c : ℕ) (rs ss : List Row) → Alike (start + 1) rs ss → Alike start (front c rs) (front c ss)
front-alike start c _ _ (past _ r s rs ss p q) = past start _ _ rs ss (omega arith) (omega arith)
front-alike start c _ _ (next _ r rs ss h) =
    next start _ rs ss (let P : ℕ → Type 0 = λ place. Alike place rs ss in subst P (omega arith) h)

-- the first row begins here, so it ends behind here
front-last : (start c : ℕ) (rs : List Row) → MOST_BYTES < start + 1 → Alike start (front c rs) (front c [])
front-last start c [] h = past start _ _ [] [] (omega arith) (omega arith)
front-last start c (r ∷ rs) h = past start _ _ rs [] (omega arith) (omega arith)

last-by : (b : Bool) (start c : ℕ) (rs : List Row) → MOST_BYTES < start + 1 →
    Alike start (if b then record { bytes = []; whole = true } ∷ rs else front c rs) (if b then record { bytes = []; whole = true } ∷ [] else front c [])
last-by true start c rs h = past start _ _ rs [] (omega arith) (omega arith)
last-by false start c rs h = front-last start c rs h

more-by : (b : Bool) (start c : ℕ) (rs ss : List Row) → Alike (start + 1) rs ss →
    Alike start (if b then record { bytes = []; whole = true } ∷ rs else front c rs) (if b then record { bytes = []; whole = true } ∷ ss else front c ss)
more-by true start c rs ss h = next start _ rs ss (let P : ℕ → Type 0 = λ place. Alike place rs ss in subst P (omega arith) h)
more-by false start c rs ss h = front-alike start c rs ss h

-- bytes that pass the limit, and more behind them
rows-alike : (start c : ℕ) (xs ys : List ℕ) → MOST_BYTES < start + length (c ∷ xs) → Alike start (rows ((c ∷ xs) ++ ys)) (rows (c ∷ xs))
rows-alike start c [] ys h = last-by (c == 10) start c (rows ys) (omega arith)
rows-alike start c (d ∷ xs) ys h = more-by (c == 10) start c (rows ((d ∷ xs) ++ ys)) (rows (d ∷ xs)) (rows-alike (start + 1) d xs ys (omega arith))

long_text_by : (xs ys : List ℕ) → MOST_BYTES < length xs → read_text (xs ++ ys) ≡ read_text xs
long_text_by [] ys h = absurd (omega arith)
long_text_by (c ∷ xs) ys h = reading-alike _ _ (rows-alike 0 c xs ys (omega arith))

pub read_text-take : (n : ℕ) (bytes : List ℕ) → MOST_BYTES < n → n ≤ length bytes → read_text (take n bytes) ≡ read_text bytes
read_text-take n bytes long most =
    let all = take-append-drop n bytes in
    let some : MOST_BYTES < length (take n bytes) = simp length-take (omega arith) in
    sym (long_text_by (take n bytes) (drop n bytes) some) ∙ ap read_text all
