-- What the calls that read a journal promise, and the laws of texts.
use Rattle.std.proofs.Common.{◌≡◌, ℕ, ◌≤◌, List, [], ◌∷◌, ◌++◌, length, zero-le, length-append, arith, inl, inr, refl, ap, ◌∙◌, sym, subst, Result, Ok, Err}
use Rattle.std.specs.Prelude.{IfOk, IfErr}
use Rattle.std.specs.List.{AllByRecursion, flat_map}
use Rattle.hub_base.specs.Entry.{Entry}
use Rattle.hub_base.specs.declared.head.Edition.{Edition}
use Rattle.hub_base.specs.declared.head.Head.{Head}
use Rattle.hub_base.specs.declared.read_fault.Kind.{Kind}
use Rattle.hub_base.specs.Head.{AreOf}
use Rattle.hub_base.specs.Lines.{pieces, line, read_fields}
use Rattle.hub_base.specs.declared.limits.TheConstants.{MOST_BYTES}
use Rattle.hub_base.specs.Reading.{rows, Reading, Reads, Faulty, read_text, head_lines}
use Rattle.hub_base.specs.declared.read_fault.ReadFault.{ReadFault}
use Rattle.hub_base.specs.declared.read_fault.ReadFault.TheVariants as fault
use Rattle.hub_base.specs.Journal.{JournalView}
use Rattle.hub_base.specs.ReadJournal.{Gives, IsFaultOf}
use Rattle.hub_base.specs.Text.{Fits, IsText, body, row_of, IsFaulty, IsEither}
use Rattle.hub_base.proofs.Bodies.{rows-entry, body-again}
use Rattle.hub_base.proofs.Heads.{rows-one, text-again, text-take}
use Rattle.hub_base.proofs.FaultyTexts.{fault-again, fault-take}

either : (bytes : List ℕ) (r : Reading) → read_text bytes ≡ r → IsEither bytes
either bytes (Reads head es) h = inl (head, es, text-take bytes head es h)
either bytes (Faulty k kind) h = inr (k, kind, fault-take bytes k kind h)

-- each list of bytes is a text or faulty
pub is-either : (bytes : List ℕ) → IsEither bytes
is-either bytes = either bytes (read_text bytes) refl

reads-one : (head other : Head) (es fs : List Entry) → Reads head es ≡ Reads other fs → (head ≡ other) × (es ≡ fs)
reads-one head other es fs h = (cc, cc)

faulty-one : (j k : ℕ) (kind other : Kind) → Faulty j kind ≡ Faulty k other → (j ≡ k) × (kind ≡ other)
faulty-one j k kind other h = (cc, cc)

reads-faulty : (head : Head) (k : ℕ) (es : List Entry) (kind : Kind) → Reads head es ≡ Faulty k kind → ⊥
reads-faulty head k es kind h = cc

-- a text of one journal
pub one-text : (bytes : List ℕ) (head other : Head) (es fs : List Entry) → IsText bytes head es → IsText bytes other fs → (head ≡ other) × (es ≡ fs)
one-text bytes head other es fs s t = reads-one head other es fs (sym (text-again bytes head es s) ∙ text-again bytes other fs t)

-- faulty at one line, for one fault
pub one-fault : (bytes : List ℕ) (j k : ℕ) (kind other : Kind) → IsFaulty bytes j kind → IsFaulty bytes k other → (j ≡ k) × (kind ≡ other)
one-fault bytes j k kind other s t = faulty-one j k kind other (sym (fault-again bytes j kind s) ∙ fault-again bytes k other t)

-- and not both
pub apart : (bytes : List ℕ) (head : Head) (k : ℕ) (es : List Entry) (kind : Kind) → IsText bytes head es → IsFaulty bytes k kind → ⊥
apart bytes head k es kind s t = reads-faulty head k es kind (sym (text-again bytes head es s) ∙ fault-again bytes k kind t)

abbrev told : Entry → Result Entry Kind
told e = Ok e

ok-one : (e f : Entry) → told e ≡ told f → e ≡ f
ok-one e f h = cc

-- no spelling begins another
pub one-spelling : (ed : Edition) (e f : Entry) (x y : List ℕ) → Fits ed e → Fits ed f → line e ++ x ≡ line f ++ y → (e ≡ f) × (x ≡ y)
one-spelling ed e f x y fe ff h =
    let one = rows-one (λ bs. read_fields ed (pieces 32 bs)) (row_of e) (row_of f) x y (sym (rows-entry ed e x fe) ∙ ap rows h ∙ rows-entry ed f y ff) in
    (ok-one e f (sym (body-again ed e fe) ∙ one.0 ∙ body-again ed f ff), one.1)

-- what answers the reading answers the text
pub gives-text : (bytes : List ℕ) (r : Result JournalView ReadFault) → Gives r (read_text bytes) → (head : Head) (es : List Entry)
    → IsText bytes head es → Gives r (Reads head es)
gives-text bytes r g head es t = let P : Reading → Type 0 = λ x. Gives r x in subst P (text-again bytes head es t) g

-- and the fault
pub gives-fault : (bytes : List ℕ) (r : Result JournalView ReadFault) → Gives r (read_text bytes) → (k : ℕ) (kind : Kind)
    → IsFaulty bytes k kind → Gives r (Faulty k kind)
gives-fault bytes r g k kind f = let P : Reading → Type 0 = λ x. Gives r x in subst P (fault-again bytes k kind f) g

-- a journal that was answered is the text's
pub found-text : (bytes : List ℕ) (r : Result JournalView ReadFault) → Gives r (read_text bytes) → IfOk r (λ j. IsText bytes j.head j.entries)
found-text bytes (Ok j) g = text-take bytes j.head j.entries g
found-text bytes (Err f) g = tt

are-of : (edition : Edition) (es : List Entry) → AllByRecursion (Fits edition) es → AreOf edition es
are-of edition [] fits = refl
are-of edition (e ∷ es) fits = rw (fits.0.of_edition) (are-of edition es fits.1)

-- its entries are those of its edition
pub text-fits : (bytes : List ℕ) (h : Head) (es : List Entry) → IsText bytes h es → AreOf h.edition es
text-fits bytes h es is = are-of h.edition es is.fits

-- and its entries are those of its edition
pub found-fits : (bytes : List ℕ) (r : Result JournalView ReadFault) → Gives r (read_text bytes) → IfOk r (λ j. AreOf j.head.edition j.entries)
found-fits bytes (Ok j) g = text-fits bytes j.head j.entries (text-take bytes j.head j.entries g)
found-fits bytes (Err f) g = tt

fault-of : (bytes : List ℕ) (f : ReadFault) → Gives (Err f) (read_text bytes) → IsFaultOf bytes f
fault-of bytes (fault.Text f) g = fault-take bytes f.line f.kind g
fault-of bytes fault.NoMemory g = tt

-- a fault that was answered is the text's
pub found-fault : (bytes : List ℕ) (r : Result JournalView ReadFault) → Gives r (read_text bytes) → IfErr r (λ f. IsFaultOf bytes f)
found-fault bytes (Ok j) g = tt
found-fault bytes (Err f) g = fault-of bytes f g

-- each entry takes a byte at least, so a text has few
a-byte-each : (es : List Entry) → length es ≤ length (flat_map line es)
a-byte-each [] = zero-le
a-byte-each (e ∷ es) = omega (arith, length-append (line e) (flat_map line es), length-append (body e) (10 ∷ []), a-byte-each es)

pub few-entries : (bytes : List ℕ) (h : Head) (es : List Entry) → IsText bytes h es → length es ≤ MOST_BYTES
few-entries bytes h es is = omega (arith, is.bytes_fit, ap length is.spelled, length-append (head_lines h) (flat_map line es), a-byte-each es)
