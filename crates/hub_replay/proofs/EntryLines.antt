-- What the line of an entry says behind the head lines.
use Rattle.std.proofs.Common.{◌≡◌, ℕ, ◌≤◌, ◌+◌, List, [], ◌∷◌, ◌++◌, refl, ap, ◌∙◌, sym, Result, Ok, Err, append_assoc}
use Rattle.std.proofs.Common.{append-nil, true, false, length, length-append, arith, cond}
use Rattle.std.proofs.Common.{Bool, not, ◌&&◌}
use Rattle.hub_base.specs.Entry.{Entry}
use Rattle.hub_base.specs.declared.head.Head.{Head}
use Rattle.hub_base.specs.declared.limits.TheConstants.{MOST_BYTES}
use Rattle.hub_base.specs.declared.read_fault.Kind.{Kind}
use Rattle.hub_base.specs.declared.read_fault.Kind.TheVariants.{TooLong}
use Rattle.hub_base.specs.Lines.{pieces, read_fields}
use Rattle.hub_base.specs.Reading.{Reading, Reads, Faulty, Row, rows, reading, read_text, faulty_or, entry_says}
use Rattle.hub_base.specs.Reading.{with_entry, behind, is_exit}
use Rattle.hub_base.specs.Reading.{head_lines}
use Rattle.hub_base.specs.Text.{header_row, procs_row}
use Rattle.hub_base.proofs.Heads.{head-rows, heads-again}
use Rattle.hub_base.proofs.Running.{row-fine}
use Rattle.hub_replay.specs.Lines.{IsEntryLine, Says, says_one}
use Rattle.hub_replay.proofs.LineEnds.{rows-of-line}
use Rattle.std.specs.Prelude.{OnOk, IfErr}

not-over : (exit : Bool) → (not exit && false) ≡ false
not-over true = refl
not-over false = refl

plain : (head : Head) (said : Result Entry Kind) → entry_says 3 0 said (λ e. Reads head []) ≡ says_one head said
plain head (Err kind) = refl
plain head (Ok e) = ap (λ b. cond b (Faulty 3 TooLong) (Reads head (e ∷ []))) (not-over (is_exit e.step))

-- a text of one entry says what its line says
pub text-says : (bytes line body : List ℕ) (head : Head) → IsEntryLine bytes head line body → length bytes ≤ MOST_BYTES
    → read_text bytes ≡ says_one head (read_fields head.edition (pieces 32 body))
text-says bytes line body head entry fits =
    let row : Row = record { bytes = body; whole = true } in
    let all : length bytes ≡ length (head_lines head) + length line = ap length entry.is ∙ length-append (head_lines head) line in
    let last : length line ≡ length body + 1 = ap length entry.whole.is ∙ length-append body (10 ∷ []) in
    let alone : rows line ≡ row ∷ [] = ap rows (sym (append-nil line)) ∙ rows-of-line line body [] entry.whole in
    ap read_text entry.is ∙ ap reading (head-rows head entry.possible line)
    ∙ ap (λ rs. reading (header_row head.edition ∷ procs_row head.procs ∷ rs)) alone
    ∙ heads-again head (row ∷ []) entry.possible (omega (arith, all, fits))
    ∙ ap (faulty_or 3 (entry_says 3 0 (read_fields head.edition (pieces 32 body)) (λ e. Reads head [])))
    (row-fine (length (head_lines head) + length body + 1) body (omega (arith, all, last, fits)))
    ∙ plain head (read_fields head.edition (pieces 32 body))

-- a fault of the text is one of its line
pub fault-said : (head : Head) (said : Result Entry Kind) (k : ℕ) (kind : Kind) → says_one head said ≡ Faulty k kind → said ≡ Err kind
fault-said head (Ok e) k kind h = cc
fault-said head (Err other) k kind h = let same : other ≡ kind = cc in ap (λ kind. Err kind) same

-- an entry of the text is that of its line
pub entry-said : (head other : Head) (said : Result Entry Kind) (e : Entry) (more : List Entry) → says_one head said ≡ Reads other (e ∷ more)
    → said ≡ Ok e
entry-said head other (Err kind) e more h = cc
entry-said head other (Ok f) e more h = let same : f ≡ e = cc in ap (λ e. Ok e) same

-- and there is one
pub some-said : (head other : Head) (said : Result Entry Kind) → says_one head said ≡ Reads other [] → ⊥
some-said head other (Err kind) h = cc
some-said head other (Ok f) h = cc

-- what was answered says so
pub read-on : (head : Head) (body : List ℕ) (e : Entry) (left : Reading) (r : Result (Unit {0}) Kind)
    → says_one head (read_fields head.edition (pieces 32 body)) ≡ with_entry e left
    → OnOk r ((other : Head) × (more : List Entry) × (left ≡ Reads other more))
    → IfErr r (λ kind. (k : ℕ) × (left ≡ Faulty k kind)) → Says head.edition body e r
read-on head body e left (Ok _) said ok err = entry-said head ok.0 _ e ok.1 (said ∙ ap (with_entry e) ok.2)
read-on head body e left (Err kind) said ok err = fault-said head _ err.0 kind (said ∙ ap (with_entry e) err.1)

-- one entry more was read
pub behind-more : (es : List Entry) (e : Entry) (r : Reading) → behind es (with_entry e r) ≡ behind (es ++ e ∷ []) r
behind-more es e (Reads head fs) = ap (Reads head) (sym (append_assoc es (e ∷ []) fs))
behind-more es e (Faulty k kind) = refl
